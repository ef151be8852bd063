use Rattle.space.specs.Far.{is_reach}
use Rattle.space.proofs.is_reach.Goals as goal

pub returns : goal.returns
unfolding is_reach
returns c = cc
