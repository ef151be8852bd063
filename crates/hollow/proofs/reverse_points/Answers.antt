use native.Mathlib.Omega.{arith}
use Rattle.hollow.specs.Laws.{turning_start, turning_step, turning_end}
use Rattle.hollow.proofs.reverse_points.Goals as goal

pub loop-i-init : goal.loop-i-init
loop-i-init c = turning_start _ _ _ _ _

pub overflow_mul-i : goal.overflow_mul-i
overflow_mul-i c =
    omega (arith, c.loop-i.invariant.upto, c.loop-i-test.true, c.requires.0, c.well_formed)

pub overflow_add-at : goal.overflow_add-at
overflow_add-at c =
    omega (arith, c.loop-i.invariant.upto, c.loop-i-test.true, c.requires.0, c.well_formed)

pub get_point-q-requires : goal.get_point-q-requires
get_point-q-requires c =
    omega (arith, c.loop-i.invariant.upto, c.loop-i-test.true, c.requires.0)

pub put_point-requires : goal.put_point-requires
put_point-requires c =
    omega (arith, c.loop-i.invariant.place, c.loop-i.invariant.size, c.loop-i-test.true, c.requires.1)

pub overflow_add-o : goal.overflow_add-o
overflow_add-o c =
    omega (arith, c.loop-i.invariant.place, c.loop-i-test.true, c.requires.1, c.well_formed)

pub loop-i-preserved : goal.loop-i-preserved
loop-i-preserved c =
    turning_step c.loop-i.invariant _ _ c.loop-i-test.true c.get_point-q.ensures c.put_point.ensures

pub shape_of-dst : goal.shape_of-dst
shape_of-dst c = c.loop-i.invariant.size

pub returns : goal.returns
returns c = turning_end c.loop-i.invariant c.loop-i-test.false
