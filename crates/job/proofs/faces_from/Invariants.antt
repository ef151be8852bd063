use Prim.Native.Nat.{◌-◌}
use lib.ListN.{length}
use Rattle.job.proofs.Turns.{Facing}
use Rattle.job.proofs.faces_from.Given as goal

abbrev pub invariant-loop-n : goal.invariant-loop-n
invariant-loop-n l = Facing l.job l.start l.at l.faces l.corners

abbrev pub decreases-loop-n : goal.decreases-loop-n
decreases-loop-n l = length l.job - l.at
