use Rattle.conform.specs.Laws.{Appending}
use Rattle.conform.proofs.append.Given as goal

abbrev pub invariant-loop-i : goal.invariant-loop-i
invariant-loop-i l = Appending l.initial.out l.at l.places l.m l.out l.i
