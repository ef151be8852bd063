use Rattle.space.specs.Vector.{finite_point}
use Rattle.space.proofs.is_finite_point.Goals as goal

pub returns : goal.returns
unfolding finite_point
returns c = cc
