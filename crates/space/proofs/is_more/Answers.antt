use Rattle.space.specs.Far.{is_more}
use Rattle.space.proofs.is_more.Goals as goal

pub returns : goal.returns
unfolding is_more
returns c = cc
