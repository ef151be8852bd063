use Rattle.cut_leaves.proofs.Guards.{floats_low, floats_short, floats_few, floats_fit}
use borrow.Author.Rules.{rules}
use Rattle.cut_leaves.proofs.floats_fit.Goals as goal

pub returns-then-d-at : goal.returns-then-d-at
returns-then-d-at c = search (rules, floats_low)

pub returns-then-rest-lt1664 : goal.returns-then-rest-lt1664
returns-then-rest-lt1664 c = search (rules, floats_short)

pub returns-then-rest-limit : goal.returns-then-rest-limit
returns-then-rest-limit c = search (rules, floats_few)

pub returns : goal.returns
returns c = search (rules, floats_fit)
