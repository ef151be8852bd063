use Rattle.ring.specs.Laws.{Ringing}
use Rattle.ring.proofs.cut_ring.Given as goal

abbrev pub invariant-loop-i : goal.invariant-loop-i
invariant-loop-i l = Ringing l.t l.plane l.src l.at l.n l.initial.face l.initial.cap l.caps l.s l.face l.cap l.i
