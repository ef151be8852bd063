use Rattle.conform.specs.Laws.{Conforming}
use Rattle.conform.proofs.conform.Given as goal

abbrev pub invariant-loop-i : goal.invariant-loop-i
invariant-loop-i l = Conforming l.t l.points l.n l.cycle l.first l.c l.at l.initial.lows l.initial.highs l.initial.places l.initial.out l.lows l.highs l.places l.out l.q l.i
