use Rattle.side.specs.Sides.{height_of}
use Rattle.side.proofs.height.Goals as goal

pub returns : goal.returns
unfolding height_of
returns c = cc
