use Rattle.side.specs.Sides.{along_i}
use Rattle.side.proofs.along.Goals as goal

pub returns : goal.returns
unfolding along_i
returns c = cc
