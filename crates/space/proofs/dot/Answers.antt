use Rattle.space.specs.Vector.{dot_v}
use Rattle.space.proofs.dot.Goals as goal

pub returns : goal.returns
unfolding dot_v
returns c = cc
