use borrow.Author.Tests.{not-true, not-false}
use Rattle.lists.specs.Laws.{run_start, run_next, run_stops, run_ends}
use Rattle.polygon.specs.MemoryLaws.{far_here}
use native.Mathlib.Omega.{arith}
use Rattle.lists.specs.Walks.{Stops}
use Rattle.polygon.specs.Memory.{far_at}
use mathlib.Core.Path.{◌≡◌, ap, subst}
use mathlib.Core.Bool.{not}
use Rattle.polygon.proofs.pass.Goals as goal

pub loop-k-init : goal.loop-k-init
loop-k-init c = run_start c.requires.1

pub returns-then-not-is_far : goal.returns-then-not-is_far
returns-then-not-is_far c =
    run_stops c.loop-k.invariant (far_here _ _ _ _ _ _ _ c.get_point-p.ensures c.is_far.ensures (not-true _ (ap not c.if-not-is_far.true)))

pub loop-k-preserved : goal.loop-k-preserved
loop-k-preserved c =
    run_next c.loop-k.invariant c.loop-k-test.true (far_here _ _ _ _ _ _ _ c.get_point-p.ensures c.is_far.ensures (not-false _ (ap not c.if-not-is_far.false)))

pub returns : goal.returns
returns c =
    let A = c.args in
    let z : c.loop-k.k ≡ A.m = omega (arith, c.loop-k-test.false, c.loop-k.auto.k-end) in
    subst (Stops (far_at A.g A.q A.points.now) A.m A.i) z (run_ends c.loop-k.invariant c.loop-k-test.false)
