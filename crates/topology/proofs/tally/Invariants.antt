use Rattle.topology.specs.Laws.{Tallying}
use Rattle.topology.proofs.tally.Given as goal

abbrev pub invariant-loop-i : goal.invariant-loop-i
invariant-loop-i l = Tallying l.places l.nexts l.faces l.c l.f l.x l.y l.alone l.reverse l.i
