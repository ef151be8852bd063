use Rattle.merge.specs.Laws.{Filling}
use Rattle.merge.proofs.fill.Given as goal

abbrev pub invariant-loop-i : goal.invariant-loop-i
invariant-loop-i l = Filling l.initial.owners l.at l.n l.x l.owners l.i
