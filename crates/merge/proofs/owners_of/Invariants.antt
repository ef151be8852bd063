use Rattle.merge.specs.Laws.{Owning}
use Rattle.merge.proofs.owners_of.Given as goal

abbrev pub invariant-loop-i : goal.invariant-loop-i
invariant-loop-i l = Owning l.sizes l.n l.initial.owners l.owners l.at l.i
