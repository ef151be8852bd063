use Rattle.pack.proofs.Turns.{Indexing}
use Rattle.pack.proofs.unpack_corners.Given as goal

abbrev pub invariant-loop-j : goal.invariant-loop-j
invariant-loop-j l = Indexing l.job l.at l.n l.initial.out l.k l.out l.j
