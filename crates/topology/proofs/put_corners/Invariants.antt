use Rattle.topology.specs.Laws.{Laying}
use Rattle.topology.proofs.put_corners.Given as goal

abbrev pub invariant-loop-i : goal.invariant-loop-i
invariant-loop-i l = Laying l.places l.at l.n l.f l.initial.nexts l.initial.faces l.nexts l.faces l.i
