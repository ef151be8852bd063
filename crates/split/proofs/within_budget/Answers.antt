use borrow.Author.Tests.{lt-ltb, le-ltb}
use Rattle.split.specs.Laws.{over, under}
use Rattle.split.proofs.within_budget.Goals as goal

pub returns-then-s-gt512 : goal.returns-then-s-gt512
returns-then-s-gt512 c = over _ _ _ _ (lt-ltb _ _ c.if-s-gt512.true) c.refuse.ensures c.gone.ensures

pub returns : goal.returns
returns c = under _ _ (le-ltb _ _ c.if-s-gt512.false)
