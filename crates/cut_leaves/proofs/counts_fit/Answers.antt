use Rattle.cut_leaves.proofs.Guards.{counts_low, counts_short, counts_fit}
use borrow.Author.Rules.{rules}
use Rattle.cut_leaves.proofs.counts_fit.Goals as goal

pub returns-then-n-k : goal.returns-then-n-k
returns-then-n-k c = search (rules, counts_low)

pub returns-then-n-k-lt128 : goal.returns-then-n-k-lt128
returns-then-n-k-lt128 c = search (rules, counts_short)

pub returns : goal.returns
returns c = search (rules, counts_fit)
