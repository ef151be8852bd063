use Rattle.splits.specs.Laws.{Passing}
use Rattle.splits.proofs.passed.Given as goal

abbrev pub invariant-loop-i : goal.invariant-loop-i
invariant-loop-i l =
    Passing l.src l.from l.counts l.j l.faces l.o l.i
