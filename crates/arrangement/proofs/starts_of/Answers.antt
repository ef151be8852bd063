use Rattle.arrangement.specs.Laws.{starting_start, starting_low, starting_step, starting_end}
use native.Mathlib.Omega.{arith}
use Rattle.arrangement.proofs.starts_of.Goals as goal

pub loop-i-init : goal.loop-i-init
loop-i-init c = starting_start _ _ _ c.requires.0

pub offset_bounds-lengths-i : goal.offset_bounds-lengths-i
offset_bounds-lengths-i c = omega (arith, c.requires.1, c.loop-i-test.true, c.well_formed)

pub offset_bounds-starts-i : goal.offset_bounds-starts-i
offset_bounds-starts-i c = omega (arith, c.requires.2, c.loop-i-test.true, c.loop-i.invariant.same, c.well_formed)

pub overflow_add-at : goal.overflow_add-at
overflow_add-at c = omega (arith, starting_low c.loop-i.invariant c.loop-i-test.true c.requires.1)

pub loop-i-preserved : goal.loop-i-preserved
loop-i-preserved c = starting_step c.loop-i.invariant c.loop-i-test.true c.requires.1

pub offset_bounds-starts-n : goal.offset_bounds-starts-n
offset_bounds-starts-n c = omega (arith, c.requires.2, c.loop-i.invariant.same, c.well_formed)

pub returns : goal.returns
returns c = starting_end c.loop-i.invariant c.loop-i-test.false
