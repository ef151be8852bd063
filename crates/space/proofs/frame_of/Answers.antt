use Rattle.space.specs.Frames.{frame_of}
use Rattle.space.proofs.frame_of.Goals as goal

pub returns : goal.returns
unfolding frame_of
returns c = cc
