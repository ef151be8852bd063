use Rattle.space.specs.Frames.{short}
use Rattle.space.proofs.is_short.Goals as goal

pub returns : goal.returns
unfolding short
returns c = cc
