use Rattle.side.proofs.first_of.Goals as goal

pub returns-then-positive : goal.returns-then-positive
returns-then-positive c = cc

pub returns-then-negative : goal.returns-then-negative
returns-then-negative c = cc

pub returns-then-zero : goal.returns-then-zero
returns-then-zero c = cc

pub returns : goal.returns
returns c = cc
