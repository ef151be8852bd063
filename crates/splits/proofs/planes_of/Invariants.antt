use Rattle.splits.specs.Laws.{Copying}
use Rattle.splits.proofs.planes_of.Given as goal

abbrev pub invariant-loop-i : goal.invariant-loop-i
invariant-loop-i l =
    Copying l.src l.from l.corners l.j l.faces l.initial.planes l.k l.planes l.o l.i
