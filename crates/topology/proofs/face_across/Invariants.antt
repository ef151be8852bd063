use lib.ListN.{get_or}
use Rattle.topology.specs.Laws.{Finding}
use Rattle.topology.proofs.face_across.Given as goal

abbrev pub invariant-loop-q : goal.invariant-loop-q
invariant-loop-q l = Finding l.places l.nexts l.faces l.c (get_or l.nexts l.i 0) (get_or l.places l.i 0) (get_or l.faces l.i 0) l.q
