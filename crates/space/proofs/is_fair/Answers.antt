use Rattle.space.specs.Vector.{fair}
use Rattle.space.proofs.is_fair.Goals as goal

pub returns : goal.returns
unfolding fair
returns c = cc
