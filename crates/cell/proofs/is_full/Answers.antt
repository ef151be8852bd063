use Rattle.cell.specs.Cells.{is_full}
use Rattle.cell.proofs.is_full.Goals as goal

pub returns : goal.returns
unfolding is_full
returns c = cc
