use Rattle.finish.specs.Laws.{Totting}
use Rattle.finish.proofs.corners_of.Given as goal

abbrev pub invariant-loop-j : goal.invariant-loop-j
invariant-loop-j l = Totting l.counts l.first l.n l.c l.j
