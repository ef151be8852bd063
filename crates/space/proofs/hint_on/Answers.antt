use Rattle.space.specs.Frames.{hint_on}
use Rattle.space.proofs.hint_on.Goals as goal

pub returns : goal.returns
unfolding hint_on
returns c = cc
