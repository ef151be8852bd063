use borrow.Author.Rules.{rules}
use mathlib.Core.Path.{◌≡◌, sym, ap, ◌∙◌}
use Prim.Native.Nat.{◌+◌}
use lib.ListN.{drop}
use Rattle.std.specs.Prelude.{Err}
use Rattle.polygon.specs.Memory.{points_at}
use Rattle.solids.specs.Apart.{not_near, apart_from}
use Rattle.solids.specs.Laws.{later_go, later_stop, later_end}
use Rattle.solids.proofs.apart_from.Goals as goal

pub loop-j-init : goal.loop-j-init
loop-j-init c =
    let A = c.args in
    ap (λ z. apart_from A.t z (drop (A.i + 1) (points_at A.points.now 0 A.n))) c.get_point-q.ensures

pub returns-in_err-not_near : goal.returns-in_err-not_near
returns-in_err-not_near c =
    let told : c.from_residual.result ≡ Err c.in_err-not_near.field-0.0 = search rules in
    let e = later_stop _ _ _ _ _ _ _ c.loop-j-test.true c.get_point-p.ensures (ap not_near (sym c.near.ensures) ∙ sym c.not_near.ensures ∙ c.in_err-not_near.was) in
    told ∙ sym e ∙ c.loop-j.invariant

pub loop-j-preserved : goal.loop-j-preserved
loop-j-preserved c =
    sym (later_go _ _ _ _ _ _ c.loop-j-test.true c.get_point-p.ensures (ap not_near (sym c.near.ensures) ∙ sym c.not_near.ensures ∙ c.in_ok-not_near.was)) ∙ c.loop-j.invariant

pub returns : goal.returns
returns c = sym (later_end _ _ _ _ _ c.loop-j-test.false) ∙ c.loop-j.invariant
