use Rattle.space.specs.Vector.{scale_v}
use Rattle.space.proofs.times.Goals as goal

pub returns : goal.returns
unfolding scale_v
returns c = cc
