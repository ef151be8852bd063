use Prim.Native.Nat.{◌-◌}
use Rattle.cell.specs.Laws.{ahead_inside}
use Rattle.splits.specs.Laws.{passing_start, passing_step, passing_end}
use native.Mathlib.Omega.{arith}
use Rattle.splits.proofs.passed.Goals as goal

pub loop-i-init : goal.loop-i-init
loop-i-init c = passing_start _ _ _ _ _ c.requires

pub overflow_add-n : goal.overflow_add-n
overflow_add-n c = omega (arith, c.requires.listed, c.loop-i-test.true, c.well_formed)

pub offset_bounds-counts-j : goal.offset_bounds-counts-j
offset_bounds-counts-j c = omega (arith, c.requires.listed, c.loop-i-test.true, c.well_formed)

pub overflow_add-o : goal.overflow_add-o
overflow_add-o c = omega (arith, ahead_inside _ _ _ _ _ _ c.requires.listed c.loop-i-test.true c.loop-i.invariant.ahead, c.well_formed)

pub overflow_mul-o : goal.overflow_mul-o
overflow_mul-o c = omega (arith, ahead_inside _ _ _ _ _ _ c.requires.listed c.loop-i-test.true c.loop-i.invariant.ahead, c.well_formed)

pub overflow_add-o-in-loop-i : goal.overflow_add-o-in-loop-i
overflow_add-o-in-loop-i c = omega (arith, ahead_inside _ _ _ _ _ _ c.requires.listed c.loop-i-test.true c.loop-i.invariant.ahead, c.well_formed)

pub loop-i-preserved : goal.loop-i-preserved
loop-i-preserved c = passing_step _ _ _ _ _ _ _ c.requires.listed c.loop-i-test.true c.loop-i.invariant

pub returns : goal.returns
returns c = passing_end _ _ _ _ _ _ _ c.loop-i-test.false c.loop-i.invariant
