use Rattle.std.specs.Prelude.{Err, ◌≡◌}
use Rattle.std.proofs.Common.{rules}
use Prim.Native.Nat.{◌+◌, ◌-◌, ◌%◌, ◌<◌}
use native.Mathlib.Omega.{arith}
use native.Mathlib.Nat.{mod-lt}
use Rattle.ring.specs.Laws.{ringing_start, ringing_step, ringing_stop, ringing_end}
use Rattle.ring.proofs.cut_ring.Goals as goal

pub loop-i-init : goal.loop-i-init
loop-i-init c = ringing_start _ _ _ _ _ _ _ _ c.requires.3

pub overflow_mul-j : goal.overflow_mul-j
overflow_mul-j c = let next-below : (c.loop-i.i + 1) % c.args.n < c.args.n = mod-lt (c.loop-i.i + 1) (omega (arith, c.loop-i-test.true)) in
    omega (arith, next-below, c.requires.0)

pub overflow_add-at-in-loop-i : goal.overflow_add-at-in-loop-i
overflow_add-at-in-loop-i c = let next-below : (c.loop-i.i + 1) % c.args.n < c.args.n = mod-lt (c.loop-i.i + 1) (omega (arith, c.loop-i-test.true)) in
    omega (arith, next-below, c.requires.0)

pub get_point-b-requires : goal.get_point-b-requires
get_point-b-requires c = let next-below : (c.loop-i.i + 1) % c.args.n < c.args.n = mod-lt (c.loop-i.i + 1) (omega (arith, c.loop-i-test.true)) in
    omega (arith, next-below, c.requires.0)

pub returns-in_err-s : goal.returns-in_err-s
returns-in_err-s c =
    let told : c.from_residual.result ≡ Err c.in_err-s.field-0.0 = search rules in
    ringing_stop _ _ _ _ _ _ _ _ _ _ _ _ _ _ _ _ _ c.loop-i-test.true c.get_point-a.ensures c.get_point-b.ensures c.cut_edge.ensures c.loop-i.invariant _ _ c.in_err-s.was told

pub loop-i-preserved : goal.loop-i-preserved
loop-i-preserved c =
    ringing_step _ _ _ _ _ _ _ _ _ _ _ _ _ _ _ _ _ c.loop-i-test.true c.get_point-a.ensures c.get_point-b.ensures c.cut_edge.ensures c.loop-i.invariant _ c.in_ok-s.was c.cut_edge.auto.face c.cut_edge.auto.cap

pub returns : goal.returns
returns c = ringing_end _ _ _ _ _ _ _ _ _ _ _ _ c.loop-i-test.false c.loop-i.invariant
