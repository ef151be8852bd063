use Rattle.fused_answer.specs.Spots.{spotting_start, spotting_fits, spotting_turn, spotting_end}
use native.Mathlib.Omega.{arith}
use Rattle.fused_answer.proofs.plane_spots.Goals as goal

pub loop-i-init : goal.loop-i-init
loop-i-init c = spotting_start _ _ _ _ c.requires.2

pub offset_bounds-spots-i : goal.offset_bounds-spots-i
offset_bounds-spots-i c =
    omega (arith, c.loop-i-test.true, c.requires.1, c.well_formed.1.1.1.0, c.loop-i.invariant.same)

pub bounds-spots-i : goal.bounds-spots-i
bounds-spots-i c =
    omega (arith, c.loop-i-test.true, c.requires.1, c.loop-i.invariant.same)

pub overflow_mul-o : goal.overflow_mul-o
overflow_mul-o c =
    omega (arith, spotting_fits _ _ _ _ _ _ _ c.loop-i.invariant c.loop-i-test.true c.requires.0, c.well_formed.1.1.0)

pub overflow_add-o : goal.overflow_add-o
overflow_add-o c =
    omega (arith, spotting_fits _ _ _ _ _ _ _ c.loop-i.invariant c.loop-i-test.true c.requires.0, c.well_formed.1.1.0)

pub overflow_add-o-in-loop-i : goal.overflow_add-o-in-loop-i
overflow_add-o-in-loop-i c =
    omega (arith, spotting_fits _ _ _ _ _ _ _ c.loop-i.invariant c.loop-i-test.true c.requires.0, c.well_formed.1.1.0)

pub loop-i-preserved : goal.loop-i-preserved
loop-i-preserved c = spotting_turn _ _ _ _ _ _ _ c.loop-i.invariant c.loop-i-test.true c.requires.0

pub shape_of-spots : goal.shape_of-spots
shape_of-spots c = c.loop-i.invariant.same

pub returns : goal.returns
returns c = spotting_end _ _ _ _ _ _ _ c.loop-i.invariant c.loop-i-test.false
