use Rattle.space.specs.Vector.{neg_v}
use Rattle.space.proofs.negated.Goals as goal

pub returns : goal.returns
unfolding neg_v
returns c = cc
