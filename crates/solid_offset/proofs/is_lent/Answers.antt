use Rattle.solid_offset.specs.Entries.{lent}
use Rattle.solid_offset.proofs.is_lent.Goals as goal

pub returns : goal.returns
unfolding lent
returns c = cc
