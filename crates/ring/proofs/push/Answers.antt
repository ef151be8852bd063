use Rattle.std.specs.Prelude.{Ok, Err, ◌≡◌}
use mathlib.Core.Path.{refl, sym, ap, subst, ◌∙◌}
use Rattle.std.proofs.Common.{rules}
use Rattle.refusal.specs.Outcome.{then}
use native.Mathlib.Omega.{arith}
use Rattle.ring.specs.Laws.{push_keep, push_drop, push_touch, push_cut, push_refused}
use Rattle.ring.proofs.push.Goals as goal

pub returns-in_err-m : goal.returns-in_err-m
returns-in_err-m c =
    let told : c.from_residual.result ≡ Err c.in_err-m.field-0.0 = search rules in
    push_refused _ _ _ _ _ c.requires _ _ c.in_err-m.was told

pub returns-in-Keep : goal.returns-in-Keep
returns-in-Keep c = push_keep _ _ _ _ _ _ _ _ (c.in_ok-m.was ∙ ap Ok c.in-Keep.is) refl c.push_face.ensures

pub returns-in-Drop : goal.returns-in-Drop
returns-in-Drop c = push_drop _ _ _ _ _ c.requires (c.in_ok-m.was ∙ ap Ok c.in-Drop.is)

pub returns-in-Touch : goal.returns-in-Touch
returns-in-Touch c = push_touch _ _ _ _ _ _ _ _ (c.in_ok-m.was ∙ ap Ok c.in-Touch.is) c.push_both.ensures

pub returns-in-Cut : goal.returns-in-Cut
returns-in-Cut c = push_cut _ _ _ _ _ _ _ _ _ _ _ (c.in_ok-m.was ∙ ap Ok c.in-Cut.is) c.push_both-in-Cut.ensures
