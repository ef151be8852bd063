use Prim.Native.Nat.{◌+◌}
use Rattle.job.specs.Runs.{stands_in, run_in}
use Rattle.intake.specs.Laws.{facing_start, facing_next, facing_end}
use native.Mathlib.Omega.{arith}
use Rattle.intake.proofs.all_polygons.Goals as goal

pub loop-n-init : goal.loop-n-init
loop-n-init c = facing_start _ _

pub overflow_add-at : goal.overflow_add-at
overflow_add-at c = omega (arith, stands_in c.args.job.now c.loop-n.at 3 0 c.stands.result c.stands.ensures c.loop-n-test.true)

pub overflow_mul-at : goal.overflow_mul-at
overflow_mul-at c = omega (arith, stands_in c.args.job.now c.loop-n.at 3 0 c.stands.result c.stands.ensures c.loop-n-test.true, run_in c.args.job.now (c.loop-n.at + 1) 4 2 c.run-n.result c.run-n.ensures)

pub overflow_add-at-in-loop-n : goal.overflow_add-at-in-loop-n
overflow_add-at-in-loop-n c = omega (arith, stands_in c.args.job.now c.loop-n.at 3 0 c.stands.result c.stands.ensures c.loop-n-test.true, run_in c.args.job.now (c.loop-n.at + 1) 4 2 c.run-n.result c.run-n.ensures)

pub overflow_add-at-in-loop-n-2 : goal.overflow_add-at-in-loop-n-2
overflow_add-at-in-loop-n-2 c = omega (arith, stands_in c.args.job.now c.loop-n.at 3 0 c.stands.result c.stands.ensures c.loop-n-test.true, run_in c.args.job.now (c.loop-n.at + 1) 4 2 c.run-n.result c.run-n.ensures)

pub loop-n-smaller : goal.loop-n-smaller
loop-n-smaller c = omega (arith, stands_in c.args.job.now c.loop-n.at 3 0 c.stands.result c.stands.ensures c.loop-n-test.true, run_in c.args.job.now (c.loop-n.at + 1) 4 2 c.run-n.result c.run-n.ensures)

pub loop-n-preserved : goal.loop-n-preserved
loop-n-preserved c = facing_next c.loop-n.invariant c.stands.ensures c.loop-n-test.true c.run-n.ensures c.is_within-fine.ensures

pub returns : goal.returns
returns c = facing_end c.loop-n.invariant c.stands.ensures c.loop-n-test.false
