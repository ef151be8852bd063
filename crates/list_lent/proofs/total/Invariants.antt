use Rattle.list_lent.specs.Laws.{Adding}
use Rattle.list_lent.proofs.total.Given as goal

abbrev pub invariant-loop-i : goal.invariant-loop-i
invariant-loop-i l = Adding l.low l.high l.most l.s l.n l.sum l.i
