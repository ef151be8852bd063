use Rattle.side.specs.Sides.{opposite_of}
use Rattle.side.proofs.opposite.Goals as goal

pub returns : goal.returns
unfolding opposite_of
returns c = cc
