use Rattle.edge.proofs.unless_vague.Goals as goal

pub returns-then-bad : goal.returns-then-bad
returns-then-bad c = cc

pub returns : goal.returns
returns c = cc
