use Rattle.side.specs.Sides.{classed}
use Rattle.side.proofs.classify.Goals as goal

pub returns : goal.returns
unfolding classed
returns c = cc
