use Rattle.space.specs.Vector.{fair_point}
use Rattle.space.proofs.is_fair_point.Goals as goal

pub returns : goal.returns
unfolding fair_point
returns c = cc
