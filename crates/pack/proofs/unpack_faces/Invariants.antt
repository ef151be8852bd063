use Prim.Native.Nat.{◌-◌}
use lib.ListN.{length}
use Rattle.pack.proofs.Turns.{Unpacking}
use Rattle.pack.proofs.unpack_faces.Given as goal

abbrev pub invariant-loop-n : goal.invariant-loop-n
invariant-loop-n l = Unpacking l.job l.middle l.initial.counts l.initial.indices l.counts l.indices l.at l.f l.k

abbrev pub decreases-loop-n : goal.decreases-loop-n
decreases-loop-n l = length l.job - l.at
