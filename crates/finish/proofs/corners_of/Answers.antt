use Rattle.finish.specs.Laws.{totting_start, totting_few, totting_step, totting_end}
use native.Mathlib.Omega.{arith}
use Rattle.finish.proofs.corners_of.Goals as goal

pub loop-j-init : goal.loop-j-init
loop-j-init c = totting_start _ _ _

pub overflow_add-c-in-loop-j : goal.overflow_add-c-in-loop-j
overflow_add-c-in-loop-j c =
    omega (arith, totting_few c.loop-j.invariant c.requires.0 c.loop-j-test.true, c.requires.1, c.ranges)

pub loop-j-preserved : goal.loop-j-preserved
loop-j-preserved c =
    totting_step c.loop-j.invariant c.requires.0 c.loop-j-test.true

pub returns : goal.returns
returns c = totting_end c.loop-j.invariant c.requires.0 c.loop-j-test.false
