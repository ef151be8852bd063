use native.Mathlib.Omega.{arith}
use Prim.Native.Nat.{◌+◌, ◌*◌}
use Rattle.job.specs.Runs.{run_in, faces_in}
use Rattle.job.proofs.span_at.Goals as goal

pub overflow_mul-middle : goal.overflow_mul-middle
overflow_mul-middle c = omega (arith, run_in c.args.job.now c.args.start 2 24 c.run-points.result c.run-points.ensures)

pub overflow_add-middle : goal.overflow_add-middle
overflow_add-middle c = omega (arith, run_in c.args.job.now c.args.start 2 24 c.run-points.result c.run-points.ensures)

pub overflow_add-middle-2 : goal.overflow_add-middle-2
overflow_add-middle-2 c = omega (arith, run_in c.args.job.now c.args.start 2 24 c.run-points.result c.run-points.ensures, faces_in c.args.job.now (c.args.start + 25 * c.run-points.result) c.faces_from-f.result c.faces_from-f.ensures)

pub overflow_mul-f : goal.overflow_mul-f
overflow_mul-f c = omega (arith, run_in c.args.job.now c.args.start 2 24 c.run-points.result c.run-points.ensures, faces_in c.args.job.now (c.args.start + 25 * c.run-points.result) c.faces_from-f.result c.faces_from-f.ensures)

pub overflow_add-middle-3 : goal.overflow_add-middle-3
overflow_add-middle-3 c = omega (arith, run_in c.args.job.now c.args.start 2 24 c.run-points.result c.run-points.ensures, faces_in c.args.job.now (c.args.start + 25 * c.run-points.result) c.faces_from-f.result c.faces_from-f.ensures)
