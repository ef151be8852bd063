use Rattle.interval.proofs.minor.Goals as goal

pub returns : goal.returns
returns c = cc
