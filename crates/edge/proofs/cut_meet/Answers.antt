use Rattle.edge.specs.Meets.{cut_meet}
use Rattle.edge.proofs.cut_meet.Goals as goal

pub returns : goal.returns
unfolding cut_meet
returns c = cc
