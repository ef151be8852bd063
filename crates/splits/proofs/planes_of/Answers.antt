use Prim.Native.Nat.{◌-◌}
use Rattle.cell.specs.Laws.{ahead_inside}
use Rattle.splits.specs.Laws.{copying_start, copying_step, copying_end}
use native.Mathlib.Omega.{arith}
use Rattle.splits.proofs.planes_of.Goals as goal

pub loop-i-init : goal.loop-i-init
loop-i-init c = copying_start _ _ _ _ _ _ _ c.requires.0

pub overflow_add-n : goal.overflow_add-n
overflow_add-n c = omega (arith, c.requires.0.listed, c.loop-i-test.true, c.well_formed)

pub offset_bounds-corners-j : goal.offset_bounds-corners-j
offset_bounds-corners-j c = omega (arith, c.requires.0.listed, c.loop-i-test.true, c.well_formed)

pub get_plane-w-requires : goal.get_plane-w-requires
get_plane-w-requires c = omega (arith, ahead_inside _ _ _ _ _ _ c.requires.0.listed c.loop-i-test.true c.loop-i.invariant.ahead)

pub overflow_mul-k : goal.overflow_mul-k
overflow_mul-k c = omega (arith, c.requires.1, c.loop-i-test.true, c.well_formed)

pub overflow_mul-i : goal.overflow_mul-i
overflow_mul-i c = omega (arith, c.requires.1, c.loop-i-test.true, c.well_formed)

pub overflow_add-k : goal.overflow_add-k
overflow_add-k c = omega (arith, c.requires.1, c.loop-i-test.true, c.well_formed)

pub put_plane-requires : goal.put_plane-requires
put_plane-requires c = omega (arith, c.requires.1, c.loop-i-test.true, c.loop-i.invariant.same)

pub overflow_add-o : goal.overflow_add-o
overflow_add-o c = omega (arith, ahead_inside _ _ _ _ _ _ c.requires.0.listed c.loop-i-test.true c.loop-i.invariant.ahead, c.well_formed)

pub overflow_mul-o : goal.overflow_mul-o
overflow_mul-o c = omega (arith, ahead_inside _ _ _ _ _ _ c.requires.0.listed c.loop-i-test.true c.loop-i.invariant.ahead, c.well_formed)

pub overflow_add-o-in-loop-i : goal.overflow_add-o-in-loop-i
overflow_add-o-in-loop-i c = omega (arith, ahead_inside _ _ _ _ _ _ c.requires.0.listed c.loop-i-test.true c.loop-i.invariant.ahead, c.well_formed)

pub loop-i-preserved : goal.loop-i-preserved
loop-i-preserved c = copying_step c.loop-i.invariant _ _ c.requires.0.listed c.loop-i-test.true c.get_plane-w.ensures c.put_plane.ensures c.put_plane.auto.s

pub shape_of-planes : goal.shape_of-planes
shape_of-planes c = c.loop-i.invariant.same

pub returns : goal.returns
returns c = copying_end c.loop-i.invariant c.loop-i-test.false
