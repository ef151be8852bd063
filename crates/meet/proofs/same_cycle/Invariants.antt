use Rattle.meet.specs.Cycle.{Shifting}
use Rattle.meet.proofs.same_cycle.Given as goal

abbrev pub invariant-loop-shift : goal.invariant-loop-shift
invariant-loop-shift l = Shifting l.v l.a l.b l.n l.shift
