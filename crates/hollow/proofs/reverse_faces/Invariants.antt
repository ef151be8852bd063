use Rattle.hollow.specs.Laws.{Reversing}
use Rattle.hollow.proofs.reverse_faces.Given as goal

abbrev pub invariant-loop-j : goal.invariant-loop-j
invariant-loop-j l = Reversing l.t l.src l.from l.counts l.first l.n l.initial.dst l.to l.initial.sizes l.k l.dst l.sizes l.o l.q l.j
