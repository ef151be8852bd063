use Rattle.arrange.specs.Laws.{Arranging}
use Rattle.arrange.proofs.conform_all.Given as goal

abbrev pub invariant-loop-j : goal.invariant-loop-j
invariant-loop-j l = Arranging l.t l.limit l.points l.n l.corners l.counts l.faces l.initial.lows l.initial.highs l.initial.places l.initial.cycles l.initial.sizes l.lows l.highs l.places l.cycles l.sizes l.q l.first l.j
