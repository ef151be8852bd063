use Rattle.space.specs.Vector.{sub_v}
use Rattle.space.proofs.minus.Goals as goal

pub returns : goal.returns
unfolding sub_v
returns c = cc
