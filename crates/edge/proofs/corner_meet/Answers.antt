use Rattle.edge.specs.Meets.{corner_meet}
use Rattle.edge.proofs.corner_meet.Goals as goal

pub returns : goal.returns
unfolding corner_meet
returns c = cc
