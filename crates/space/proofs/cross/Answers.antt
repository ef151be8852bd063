use Rattle.space.specs.Vector.{cross_v}
use Rattle.space.proofs.cross.Goals as goal

pub returns : goal.returns
unfolding cross_v
returns c = cc
