use Rattle.edge.specs.Meets.{no_ratio}
use Rattle.edge.proofs.has_no_ratio.Goals as goal

pub returns : goal.returns
unfolding no_ratio
returns c = cc
