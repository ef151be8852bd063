use mathlib.Core.Path.{sym, ◌∙◌}
use borrow.Author.Tests.{not-true, not-false}
use Rattle.intake.specs.Laws.{large_took}
use mathlib.Core.Path.{ap}
use mathlib.Core.Bool.{not}
use Rattle.intake.proofs.take_solid.Goals as goal

pub refuse_large-requires : goal.refuse_large-requires
refuse_large-requires c = (c.requires.0, sym c.is_small.ensures ∙ not-true _ (ap not c.if-not-is_small.true))

pub returns-then-not-is_small : goal.returns-then-not-is_small
returns-then-not-is_small c = large_took _ _ _ c.requires.0 _ _ _ (sym c.is_small.ensures ∙ not-true _ (ap not c.if-not-is_small.true)) c.refuse_large.ensures

pub take_small-requires : goal.take_small-requires
take_small-requires c =
    (c.requires.0, sym c.is_small.ensures ∙ not-false _ (ap not c.if-not-is_small.false), c.requires.1, c.requires.2)

pub returns : goal.returns
returns c = c.take_small.ensures
