use Rattle.vector_leaves.proofs.Laws.{box_none, box_read}
use borrow.Author.Rules.{rules}
use Rattle.vector_leaves.proofs.box_by.Goals as goal

pub returns-then-s-lt6 : goal.returns-then-s-lt6
returns-then-s-lt6 c = search (rules, box_none)

pub returns : goal.returns
returns c = search (rules, box_read)
