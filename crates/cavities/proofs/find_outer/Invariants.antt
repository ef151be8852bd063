use Rattle.cavities.specs.Steps.{Seeking}
use Rattle.cavities.proofs.find_outer.Given as goal

abbrev pub invariant-loop-k : goal.invariant-loop-k
invariant-loop-k l = Seeking l.points l.v l.starts l.d l.c l.g l.outer l.k
