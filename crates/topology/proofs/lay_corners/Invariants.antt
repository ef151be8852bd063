use Rattle.topology.specs.Laws.{Laid}
use Rattle.topology.proofs.lay_corners.Given as goal

abbrev pub invariant-loop-j : goal.invariant-loop-j
invariant-loop-j l = Laid l.places l.counts l.n l.initial.nexts l.initial.faces l.nexts l.faces l.at l.j
