use Rattle.edge.specs.Meets.{between}
use Rattle.edge.proofs.between.Goals as goal

pub returns : goal.returns
unfolding between
returns c = cc
