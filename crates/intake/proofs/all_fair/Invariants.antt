use Rattle.intake.specs.Laws.{Fairing}
use Rattle.intake.proofs.all_fair.Given as goal

abbrev pub invariant-loop-i : goal.invariant-loop-i
invariant-loop-i l = Fairing l.job l.start l.n l.fine l.i
