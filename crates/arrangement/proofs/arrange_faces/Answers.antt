use Rattle.std.specs.Prelude.{◌≡◌, Err}
use borrow.Author.Rules.{rules}
use Rattle.arrangement.specs.Laws.{merged_made, merged_refused, faces_fit, conform_asks, shaped_made, layout_made, layout_refused}
use native.Mathlib.Omega.{arith}
use Rattle.arrangement.proofs.arrange_faces.Goals as goal

pub merge-requires : goal.merge-requires
merge-requires c = faces_fit _ _ _ _ _ _ _ c.requires.0 c.requires.1

pub returns-in_err-n : goal.returns-in_err-n
returns-in_err-n c =
    let told : c.from_residual.result ≡ Err c.in_err-n.field-0.0 = search rules in
    merged_refused _ _ _ _ _ _ _ _ _ _ _ _ _ _ c.merge.ensures c.in_err-n.was told

pub conform_all-requires : goal.conform_all-requires
conform_all-requires c =
    let h = c.requires in
    let m = c.merge in
    conform_asks h.0 (merged_made _ _ _ _ _ _ _ _ m.ensures c.in_ok-n.was) h.1.points h.1.corners _ _ _ _ h.1 (record { lows = omega arith; highs = omega arith; places = omega arith }) m.auto.points

pub returns-in_err-m : goal.returns-in_err-m
returns-in_err-m c =
    let h = c.requires in
    let told : c.from_residual-in_err-m.result ≡ Err c.in_err-m.field-0.0 = search rules in
    shaped_made h.0 (merged_made _ _ _ _ _ _ _ _ c.merge.ensures c.in_ok-n.was) h.1.points h.1.corners _ _ _ _ _ _ _ _ _ _ _ _ c.conform_all.ensures (layout_refused _ _ _ _ _ c.in_err-m.was told)

pub returns : goal.returns
returns c =
    let h = c.requires in
    shaped_made h.0 (merged_made _ _ _ _ _ _ _ _ c.merge.ensures c.in_ok-n.was) h.1.points h.1.corners _ _ _ _ _ _ _ _ _ _ _ _ c.conform_all.ensures (layout_made _ _ _ _ c.in_ok-m.was)
