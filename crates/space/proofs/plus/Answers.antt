use Rattle.space.specs.Vector.{add_v}
use Rattle.space.proofs.plus.Goals as goal

pub returns : goal.returns
unfolding add_v
returns c = cc
