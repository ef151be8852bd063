use Rattle.space.specs.Frames.{plane_of}
use Rattle.space.proofs.plane_of.Goals as goal

pub returns : goal.returns
unfolding plane_of
returns c = cc
