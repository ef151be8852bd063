use Rattle.std.specs.Prelude.{Ok, Err, ◌≡◌}
use mathlib.Core.Path.{sym, ap, ◌∙◌}
use native.Mathlib.Omega.{arith}
use Prim.Native.Nat.{◌≤◌}
use lib.ListN.{length}
use Rattle.std.proofs.Common.{rules}
use Rattle.polygon.specs.Polygons.{made}
use Rattle.polygon.specs.Unique.{unique}
use Rattle.polygon.proofs.Turns.{scanned_start, scanned_step, scanned_end, points_start, kept_near, kept_apart, kept_refused, kept_end, room, all_points, point_here}
use Rattle.polygon.proofs.unique.Goals as goal
use Rattle.polygon.proofs.unique.Goals.{in-Near, in-Apart}

pub loop-i-init : goal.loop-i-init
loop-i-init c = let A = c.args in rw c.empty-out.ensures (points_start A.t A.points.now A.at A.n c.requires.0)

pub loop-j-init : goal.loop-j-init
loop-j-init c = scanned_start

pub loop-j-preserved : goal.loop-j-preserved
loop-j-preserved c =
    let I = c.loop-i.invariant in
    let h : c.loop-i.m ≤ length c.loop-i.out.at = omega (arith, room I, I.few, I.low, I.small) in
    rw c.compared-s.ensures (scanned_step c.loop-j.invariant c.loop-j-test.true h)

pub returns-in_err-s-clause-value : goal.returns-in_err-s-clause-value
unfolding made
returns-in_err-s-clause-value c =
    let A = c.args in
    let told : c.from_residual.result ≡ Err c.in_err-s.field-0.0 = search rules in
    let e = kept_refused c.loop-i.invariant c.get_point-q.result (c.get_point-q.ensures ∙ point_here c.args.points.now c.args.at c.args.n c.loop-i.i c.loop-i-test.true) c.loop-i-test.true (sym c.in_err-s.was ∙ scanned_end c.loop-j.invariant c.loop-j-test.false) in
    told ∙ ap made (sym e ∙ ap (unique A.t) (all_points A.points.now A.at A.n))

pub loop-i-preserved : goal.loop-i-preserved
loop-i-preserved c =
    let I = c.loop-i.invariant in
    let h = c.loop-i-test.true in
    let A = c.args in
    let e = scanned_end c.loop-j.invariant c.loop-j-test.false in
    let at = c.get_point-q.ensures ∙ point_here A.points.now A.at A.n c.loop-i.i h in
    elim c.match-branch-2.branch [
      | in-Near w ↦ rw (w.out-is, w.m-is) (kept_near I c.get_point-q.result at h (sym (c.in_ok-s.was ∙ ap Ok w.in-Near.is) ∙ e))
      | in-Apart w ↦ rw (w.out-is, w.m-is) (kept_apart I c.get_point-q.result at h (sym (c.in_ok-s.was ∙ ap Ok w.in-Apart.is) ∙ e))
    ]

pub returns-clause-value : goal.returns-clause-value
returns-clause-value c =
    let A = c.args in
    kept_end c.loop-i.invariant c.loop-i-test.false ∙ ap (λ l. made (unique A.t l)) (all_points A.points.now A.at A.n)

pub returns-clause-n_bound : goal.returns-clause-n_bound
returns-clause-n_bound c = let I = c.loop-i.invariant in omega (arith, I.few, I.low, I.small)
