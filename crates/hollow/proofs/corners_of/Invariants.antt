use Rattle.hollow.specs.Laws.{Counting}
use Rattle.hollow.proofs.corners_of.Given as goal

abbrev pub invariant-loop-j : goal.invariant-loop-j
invariant-loop-j l = Counting l.src l.from l.counts l.first l.n l.held l.j
