use borrow.Author.Rules.{rules}
use mathlib.Core.Path.{◌≡◌, sym, ◌∙◌}
use Rattle.std.specs.Prelude.{Err}
use Rattle.polygon.specs.Memory.{points_at}
use Rattle.solids.specs.Turning.{turning_start, turning_go, turning_stop, turning_end, turns_long, turns_none}
use Rattle.solids.proofs.face_turns.Goals as goal

pub returns-then-n-eq0 : goal.returns-then-n-eq0
returns-then-n-eq0 c =
    let A = c.args in
    sym (turns_none A.t A.w A.places.now (points_at A.points.now 0 A.m) A.at A.n c.requires.0 c.if-n-eq0.true)

pub loop-k-init : goal.loop-k-init
loop-k-init c = turning_start _ _ _ _ _ c.flat_at-a.ensures c.flat_at-b.ensures

pub returns-in_err-not_dented : goal.returns-in_err-not_dented
returns-in_err-not_dented c =
    let A = c.args in
    let told : c.from_residual.result ≡ Err c.in_err-not_dented.field-0.0 = search rules in
    told ∙ sym (sym (turns_long A.t A.w A.places.now (points_at A.points.now 0 A.m) A.at A.n c.requires.0) ∙ turning_stop c.loop-k.invariant _ c.loop-k-test.true c.flat_at-c.ensures c.orientation.ensures c.not_dented.ensures c.in_err-not_dented.was)

pub loop-k-preserved : goal.loop-k-preserved
loop-k-preserved c =
    turning_go c.loop-k.invariant c.loop-k-test.true c.flat_at-c.ensures c.orientation.ensures c.not_dented.ensures c.in_ok-not_dented.was

pub returns : goal.returns
returns c =
    let A = c.args in
    sym (sym (turns_long A.t A.w A.places.now (points_at A.points.now 0 A.m) A.at A.n c.requires.0) ∙ turning_end c.loop-k.invariant c.loop-k-test.false)
