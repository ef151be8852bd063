use Rattle.space.specs.Frames.{local_of}
use Rattle.space.proofs.to_local.Goals as goal

pub returns : goal.returns
unfolding local_of
returns c = cc
