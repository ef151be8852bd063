use Rattle.cell.specs.Laws.{Filling}
use Rattle.cell.proofs.left_cell.Given as goal

abbrev pub invariant-loop-i : goal.invariant-loop-i
invariant-loop-i l = Filling l.limit l.src l.from l.sizes l.j l.faces l.initial.dst l.at l.initial.counts l.k l.s l.dst l.counts l.o l.i
