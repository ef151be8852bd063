use Rattle.space.specs.Near.{gap_i}
use Rattle.space.proofs.gap.Goals as goal

pub returns : goal.returns
unfolding gap_i
returns c = cc
