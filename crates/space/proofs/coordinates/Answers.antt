use Rattle.space.specs.Vector.{box_of}
use Rattle.space.proofs.coordinates.Goals as goal

pub returns : goal.returns
unfolding box_of
returns c = cc
