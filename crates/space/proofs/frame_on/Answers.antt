use Rattle.space.specs.Frames.{frame_on}
use Rattle.space.proofs.frame_on.Goals as goal

pub returns : goal.returns
unfolding frame_on
returns c = cc
