use Rattle.space.specs.Vector.{fair_precision}
use Rattle.space.proofs.is_fair_precision.Goals as goal

pub returns : goal.returns
unfolding fair_precision
returns c = cc
