use Rattle.space.specs.Near.{near_of}
use Rattle.space.proofs.near.Goals as goal

pub returns : goal.returns
unfolding near_of
returns c = cc
