use Rattle.stack.specs.Laws.{Copied}
use Rattle.stack.proofs.copy_front.Given as goal

abbrev pub invariant-loop-i : goal.invariant-loop-i
invariant-loop-i g l = Copied l.initial.dst l.src l.n l.dst l.i
