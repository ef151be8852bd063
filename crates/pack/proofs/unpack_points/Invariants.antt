use Rattle.pack.proofs.Turns.{Pointing}
use Rattle.pack.proofs.unpack_points.Given as goal

abbrev pub invariant-loop-i : goal.invariant-loop-i
invariant-loop-i l = Pointing l.job l.start l.n l.initial.out l.out l.i
