use Rattle.answer.specs.Laws.{FacetRow}
use Rattle.answer.proofs.put_facets.Given as goal

abbrev pub invariant-loop-i : goal.invariant-loop-i
invariant-loop-i l = FacetRow l.s l.from l.sizes l.j l.faces l.initial.out l.at l.out l.o l.p l.i
