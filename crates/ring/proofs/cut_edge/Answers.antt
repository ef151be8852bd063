use Rattle.std.specs.Prelude.{Ok, Err, ◌≡◌}
use mathlib.Core.Path.{refl, sym, ap, subst, ◌∙◌}
use Rattle.std.proofs.Common.{rules}
use Rattle.refusal.specs.Outcome.{then}
use native.Mathlib.Omega.{arith}
use Rattle.ring.specs.Rings.{Bounded}
use Rattle.ring.specs.Laws.{edge_done, edge_refused}
use Rattle.ring.proofs.cut_edge.Goals as goal

pub returns-in_err-first : goal.returns-in_err-first
returns-in_err-first c =
    let told : c.from_residual.result ≡ Err c.in_err-first.field-0.0 = search rules in
    edge_refused _ _ _ _ _ _ _ (Err c.in_err-first.field-0.0) _ _ _ _ _ c.args.face.now c.args.cap.now c.side_of-sa.ensures c.side_of-sb.ensures c.corner_meet-corner.ensures _ _ _ c.push.ensures c.in_err-first.was told

pub push-requires-2 : goal.push-requires-2
push-requires-2 c =
    let b : Bounded (Ok c.in_ok-first.first) = subst Bounded c.in_ok-first.was c.push.ensures.few in
    record { few = b.0; few_caps = b.1; face_fits = omega (arith, c.requires.face_fits, c.push.auto.face); cap_fits = omega (arith, c.requires.cap_fits, c.push.auto.cap) }

pub returns : goal.returns
returns c =
    edge_done _ _ _ _ _ _ _ _ _ _ _ _ _ _ _ c.side_of-sa.ensures c.side_of-sb.ensures c.corner_meet-corner.ensures _ _ _ c.edge_meet-crossing.ensures c.push.ensures c.in_ok-first.was c.push-2.ensures
