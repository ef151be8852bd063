use Rattle.splits.specs.Laws.{Splitting, Three, Five}
use Rattle.splits.proofs.split_list.Given as goal

abbrev pub invariant-loop-i : goal.invariant-loop-i
invariant-loop-i l =
    Splitting l.t l.limit l.plane l.back l.k l.src l.corners l.faces l.s l.dst l.counts l.sizes l.from l.j l.i × Three l.dst l.counts l.sizes l.initial.dst l.initial.counts l.initial.sizes × Five l.face l.cap l.flat l.order l.chain l.initial.face l.initial.cap l.initial.flat l.initial.order l.initial.chain
