use Rattle.topology.specs.Laws.{Joining}
use Rattle.topology.proofs.put_joins.Given as goal

abbrev pub invariant-loop-i : goal.invariant-loop-i
invariant-loop-i l = Joining l.places l.nexts l.faces l.c l.initial.ends l.ends l.i
