use Rattle.offset.specs.Laws.{Gathering}
use Rattle.offset.proofs.meeting_at.Given as goal

abbrev pub invariant-loop-j : goal.invariant-loop-j
invariant-loop-j l = Gathering l.s l.at l.counts l.first l.n l.by l.places l.x l.m l.o l.k l.j
