use borrow.Author.Tests.{not-true, not-false}
use Rattle.stack.specs.Laws.{holds}
use Rattle.cells.specs.Laws.{settled_nothing, settled_part, listed_begun}
use mathlib.Core.Path.{ap}
use mathlib.Core.Bool.{not}
use Rattle.cells.proofs.settle.Goals as goal

pub returns-then-not-some : goal.returns-then-not-some
returns-then-not-some c = settled_nothing _ _ _ _ _ _ _ _ c.begun-list.ensures (not-true _ (ap not c.if-not-some.true))

pub add_cell-requires : goal.add_cell-requires
add_cell-requires c = let H = c.requires.sits (not-false _ (ap not c.if-not-some.false)) in
    record { given = (H.given, H.wide, H.some, H.few); holds = (holds _ _ _ _ _ _ (listed_begun _ _ _ _ _ _ c.begun-list.ensures), c.requires.places) }

pub returns : goal.returns
returns c = settled_part _ _ _ _ _ _ _ _ c.begun-list.ensures _ _ _ _ (not-false _ (ap not c.if-not-some.false)) c.add_cell.ensures
