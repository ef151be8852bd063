use Rattle.indexed.specs.Indexed.{search_by}
use Rattle.indexed.specs.Laws.{Taking}
use Rattle.indexed.proofs.index_face.Given as goal

abbrev pub invariant-loop-j : goal.invariant-loop-j
invariant-loop-j l = Taking (search_by l.pick l.t) l.s l.at l.n l.m l.k l.initial.points l.initial.places l.points l.places l.c l.j
