use Rattle.vector_leaves.proofs.Laws.{box_fits, box_short}
use borrow.Author.Rules.{rules}
use Rattle.vector_leaves.proofs.put_box.Goals as goal

pub returns-then-out-ge6 : goal.returns-then-out-ge6
returns-then-out-ge6 c = search (rules, box_fits)

pub returns-else-out-ge6 : goal.returns-else-out-ge6
returns-else-out-ge6 c = search (rules, box_short)
