use Rattle.float.proofs.either_nan.Goals as goal

pub returns : goal.returns
returns c = cc
