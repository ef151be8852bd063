use Rattle.std.specs.Prelude.{Err}
use borrow.Author.Rules.{rules}
use mathlib.Core.Path.{◌≡◌, refl, sym, ◌∙◌}
use borrow.Author.Tests.{not-true, not-false}
use Rattle.offset.specs.Whole.{index_source, index_few, index_not, index_moved, not_finite}
use mathlib.Core.Path.{ap}
use mathlib.Core.Bool.{not}
use Rattle.offset.proofs.offset_distances.Goals as goal

pub returns-then-not-all_finite : goal.returns-then-not-all_finite
returns-then-not-all_finite c =
    not_finite c.requires _ _ _ c.refuse.ensures refl (sym c.all_finite.ensures ∙ not-true _ (ap not c.if-not-all_finite.true))

pub move_all-requires : goal.move_all-requires
move_all-requires c =
    let few = index_few c.requires _ _ _ _ c.indexed.ensures _ c.in_ok-m.was in
    (index_source c.requires _ _ _ _ c.indexed.ensures _ c.in_ok-m.was, few.0, few.1, c.requires.place)

pub returns-in_err-m : goal.returns-in_err-m
returns-in_err-m c =
    let told : c.from_residual.result ≡ Err c.in_err-m.field-0.0 = search rules in
    index_not c.requires _ _ _ _ c.indexed.ensures _ _ c.in_err-m.was told (sym c.all_finite.ensures ∙ not-false _ (ap not c.if-not-all_finite.false))

pub returns : goal.returns
returns c =
    index_moved c.requires _ _ _ _ c.indexed.ensures _ _ _ _ c.in_ok-m.was (sym c.all_finite.ensures ∙ not-false _ (ap not c.if-not-all_finite.false)) c.move_all.ensures
