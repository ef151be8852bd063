use native.Mathlib.Omega.{arith}
use Prim.Native.Nat.{◌+◌}
use Rattle.job.specs.Runs.{stands_in, run_in}
use Rattle.pack.proofs.Turns.{face_start, face_room, face_turn, counts_end, indices_end}
use Rattle.pack.proofs.unpack_faces.Goals as goal

pub loop-n-init : goal.loop-n-init
loop-n-init c = face_start _ _ _ _

pub overflow_add-at : goal.overflow_add-at
overflow_add-at c = omega (arith, stands_in c.args.job.now c.loop-n.at 3 0 c.stands.result c.stands.ensures c.loop-n-test.true)

pub bounds-counts-f : goal.bounds-counts-f
bounds-counts-f c = omega (arith, (face_room c.loop-n.invariant c.run-n.result c.stands.result c.stands.ensures c.loop-n-test.true c.run-n.ensures).0, c.loop-n.invariant.same_counts, c.requires.0)

pub overflow_add-at-in-loop-n : goal.overflow_add-at-in-loop-n
overflow_add-at-in-loop-n c = omega (arith, stands_in c.args.job.now c.loop-n.at 3 0 c.stands.result c.stands.ensures c.loop-n-test.true)

pub unpack_corners-requires : goal.unpack_corners-requires
unpack_corners-requires c = (omega (arith, stands_in c.args.job.now c.loop-n.at 3 0 c.stands.result c.stands.ensures c.loop-n-test.true, run_in c.args.job.now (c.loop-n.at + 1) 4 2 c.run-n.result c.run-n.ensures), omega (arith, (face_room c.loop-n.invariant c.run-n.result c.stands.result c.stands.ensures c.loop-n-test.true c.run-n.ensures).1, c.loop-n.invariant.same_indices, c.requires.1))

pub overflow_mul-at : goal.overflow_mul-at
overflow_mul-at c = omega (arith, stands_in c.args.job.now c.loop-n.at 3 0 c.stands.result c.stands.ensures c.loop-n-test.true, run_in c.args.job.now (c.loop-n.at + 1) 4 2 c.run-n.result c.run-n.ensures, c.loop-n.invariant.placed)

pub overflow_add-at-in-loop-n-2 : goal.overflow_add-at-in-loop-n-2
overflow_add-at-in-loop-n-2 c = omega (arith, stands_in c.args.job.now c.loop-n.at 3 0 c.stands.result c.stands.ensures c.loop-n-test.true, run_in c.args.job.now (c.loop-n.at + 1) 4 2 c.run-n.result c.run-n.ensures, c.loop-n.invariant.placed)

pub overflow_add-at-in-loop-n-3 : goal.overflow_add-at-in-loop-n-3
overflow_add-at-in-loop-n-3 c = omega (arith, stands_in c.args.job.now c.loop-n.at 3 0 c.stands.result c.stands.ensures c.loop-n-test.true, run_in c.args.job.now (c.loop-n.at + 1) 4 2 c.run-n.result c.run-n.ensures, c.loop-n.invariant.placed)

pub overflow_add-f : goal.overflow_add-f
overflow_add-f c = omega (arith, stands_in c.args.job.now c.loop-n.at 3 0 c.stands.result c.stands.ensures c.loop-n-test.true, run_in c.args.job.now (c.loop-n.at + 1) 4 2 c.run-n.result c.run-n.ensures, c.loop-n.invariant.placed)

pub overflow_add-k : goal.overflow_add-k
overflow_add-k c = omega (arith, stands_in c.args.job.now c.loop-n.at 3 0 c.stands.result c.stands.ensures c.loop-n-test.true, run_in c.args.job.now (c.loop-n.at + 1) 4 2 c.run-n.result c.run-n.ensures, c.loop-n.invariant.placed)

pub loop-n-smaller : goal.loop-n-smaller
loop-n-smaller c = omega (arith, stands_in c.args.job.now c.loop-n.at 3 0 c.stands.result c.stands.ensures c.loop-n-test.true, run_in c.args.job.now (c.loop-n.at + 1) 4 2 c.run-n.result c.run-n.ensures, c.loop-n.invariant.placed)

pub loop-n-preserved : goal.loop-n-preserved
loop-n-preserved c = face_turn c.loop-n.invariant c.run-n.result c.stands.result _ c.stands.ensures c.loop-n-test.true c.run-n.ensures c.unpack_corners.ensures

pub returns : goal.returns
returns c = record { counts_after = counts_end c.loop-n.invariant c.stands.result c.stands.ensures c.loop-n-test.false; indices_after = indices_end c.loop-n.invariant c.stands.result c.stands.ensures c.loop-n-test.false }
