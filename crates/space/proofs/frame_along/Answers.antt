use Rattle.space.specs.Frames.{frame_along}
use Rattle.space.proofs.frame_along.Goals as goal

pub returns : goal.returns
unfolding frame_along
returns c = cc
