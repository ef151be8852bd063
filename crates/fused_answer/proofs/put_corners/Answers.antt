use Prim.Native.Nat.{◌+◌}
use Rattle.writer.specs.Rows.{numbers_start, numbers_end}
use Rattle.fused_answer.specs.Laws.{corner_turn}
use native.Mathlib.Omega.{arith}
use Rattle.fused_answer.proofs.put_corners.Goals as goal

pub loop-i-init : goal.loop-i-init
loop-i-init c = numbers_start _ _ _ _ _ _ _

pub overflow_mul-p : goal.overflow_mul-p
overflow_mul-p c =
    let L = c.loop-i in
    let h = c.loop-i-test.true in
    let z = c.requires.0 (c.args.a + L.i) (omega (arith, h, c.requires.1)) in
    omega (arith, z, c.well_formed.0)

pub get_point-q-requires : goal.get_point-q-requires
get_point-q-requires c =
    let L = c.loop-i in
    let h = c.loop-i-test.true in
    let z = c.requires.0 (c.args.a + L.i) (omega (arith, h, c.requires.1)) in
    z

pub overflow_mul-i : goal.overflow_mul-i
overflow_mul-i c =
    let L = c.loop-i in
    let h = c.loop-i-test.true in
    omega (arith, h, c.requires.2, c.well_formed.1.1.1.1.0, L.invariant.rowing.same)

pub overflow_add-at : goal.overflow_add-at
overflow_add-at c =
    let L = c.loop-i in
    let h = c.loop-i-test.true in
    omega (arith, h, c.requires.2, c.well_formed.1.1.1.1.0, L.invariant.rowing.same)

pub put_point-requires : goal.put_point-requires
put_point-requires c =
    let L = c.loop-i in
    let h = c.loop-i-test.true in
    omega (arith, h, c.requires.2, L.invariant.rowing.same)

pub loop-i-preserved : goal.loop-i-preserved
loop-i-preserved c =
    let L = c.loop-i in
    let h = c.loop-i-test.true in
    let Q = c.get_point-q in
    let U = c.put_point in
    corner_turn _ _ _ L.invariant h c.requires.1 Q.ensures U.ensures

pub shape_of-out : goal.shape_of-out
shape_of-out c = c.loop-i.invariant.rowing.same

pub returns : goal.returns
returns c = numbers_end _ _ c.loop-i.invariant c.loop-i-test.false
