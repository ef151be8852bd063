use Rattle.std.specs.Prelude.{Ok, Err, ◌≡◌}
use mathlib.Core.Path.{refl, sym, ap, subst, ◌∙◌}
use Rattle.std.proofs.Common.{rules}
use Rattle.refusal.specs.Outcome.{then}
use native.Mathlib.Omega.{arith}
use Rattle.ring.specs.Rings.{Bounded}
use Rattle.ring.specs.Laws.{both_pushed, both_refused}
use Rattle.ring.proofs.push_both.Goals as goal

pub returns-in_err-first : goal.returns-in_err-first
returns-in_err-first c =
    let told : c.from_residual.result ≡ Err c.in_err-first.field-0.0 = search rules in
    both_refused _ _ _ _ _ _ _ _ c.push_face.ensures c.in_err-first.was told

pub push_cap-requires : goal.push_cap-requires
push_cap-requires c =
    let b : Bounded (Ok c.in_ok-first.first) = subst Bounded c.in_ok-first.was c.push_face.ensures.few in
    (b.0, b.1, c.requires.cap_fits)

pub returns : goal.returns
returns c = both_pushed _ _ _ _ _ _ _ _ _ c.push_face.ensures c.in_ok-first.was c.push_cap.ensures
