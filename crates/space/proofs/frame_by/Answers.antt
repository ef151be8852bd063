use Rattle.space.specs.Frames.{frame_by}
use Rattle.space.proofs.frame_by.Goals as goal

pub returns : goal.returns
unfolding frame_by
returns c = cc
