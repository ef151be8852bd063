use mathlib.Core.Path.{sym, ◌∙◌}
use borrow.Author.Tests.{not-true, not-false}
use Rattle.intake.specs.Laws.{large_numbers, large_counts, large_corners}
use mathlib.Core.Path.{ap}
use mathlib.Core.Bool.{not}
use Rattle.intake.proofs.refuse_large.Goals as goal

pub returns-then-not-all_fair : goal.returns-then-not-all_fair
returns-then-not-all_fair c = large_numbers _ _ _ c.requires.0 _ c.refuse.ensures (sym c.all_fair.ensures ∙ not-true _ (ap not c.if-not-all_fair.true))

pub returns-then-not-is_counted : goal.returns-then-not-is_counted
returns-then-not-is_counted c =
    large_counts _ _ _ c.requires.0 _ c.refuse-then-not-is_counted.ensures (sym c.all_fair.ensures ∙ not-false _ (ap not c.if-not-all_fair.false))
    (sym c.is_counted.ensures ∙ not-true _ (ap not c.if-not-is_counted.true))

pub returns : goal.returns
returns c =
    large_corners _ _ _ c.requires.0 _ c.refuse-2.ensures c.requires.1 (sym c.all_fair.ensures ∙ not-false _ (ap not c.if-not-all_fair.false))
    (sym c.is_counted.ensures ∙ not-false _ (ap not c.if-not-is_counted.false))
