use Rattle.space.specs.Vector.{over_v}
use Rattle.space.proofs.over.Goals as goal

pub returns : goal.returns
unfolding over_v
returns c = cc
