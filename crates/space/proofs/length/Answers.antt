use Rattle.space.specs.Vector.{length_v}
use Rattle.space.proofs.length.Goals as goal

pub returns : goal.returns
unfolding length_v
returns c = cc
