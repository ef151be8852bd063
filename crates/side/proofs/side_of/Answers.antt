use Rattle.side.specs.Sides.{side_of}
use Rattle.side.proofs.side_of.Goals as goal

pub returns : goal.returns
unfolding side_of
returns c = cc
