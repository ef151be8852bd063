use native.Mathlib.Omega.{arith}
use Rattle.hollow.specs.Laws.{counting_start, counting_few, counting_step, counting_end, counting_all}
use Rattle.hollow.proofs.corners_of.Goals as goal

pub loop-j-init : goal.loop-j-init
loop-j-init c = counting_start c.requires

pub overflow_add-held-in-loop-j : goal.overflow_add-held-in-loop-j
overflow_add-held-in-loop-j c =
    omega (arith, counting_few c.loop-j.invariant c.requires c.loop-j-test.true, c.well_formed)

pub loop-j-preserved : goal.loop-j-preserved
loop-j-preserved c =
    counting_step c.loop-j.invariant c.requires c.loop-j-test.true

pub returns : goal.returns
returns c = (counting_end c.loop-j.invariant c.requires c.loop-j-test.false, counting_all c.loop-j.invariant c.requires)
