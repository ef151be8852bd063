use Rattle.clip.specs.Laws.{Cutting_on}
use Rattle.clip.proofs.cut_faces.Given as goal

abbrev pub invariant-loop-i : goal.invariant-loop-i
invariant-loop-i l = Cutting_on l.t l.limit l.plane l.src l.from l.sizes l.j l.faces l.initial.face l.initial.cap l.initial.dst l.at l.initial.counts l.k l.s l.face l.cap l.dst l.counts l.o l.i
