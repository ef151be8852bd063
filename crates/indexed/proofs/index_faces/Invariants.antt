use Rattle.indexed.specs.Indexed.{search_by}
use Rattle.indexed.specs.Laws.{Walking}
use Rattle.indexed.proofs.index_faces.Given as goal

abbrev pub invariant-loop-j : goal.invariant-loop-j
invariant-loop-j l = Walking (search_by l.pick l.t) l.s l.at l.counts l.first l.n l.initial.points l.initial.places l.points l.places l.m l.k l.o l.j
