use Rattle.space.proofs.framed_unless.Goals as goal

pub returns-then-short : goal.returns-then-short
returns-then-short c = cc

pub returns : goal.returns
returns c = cc
