use Rattle.meet.specs.Cycle.{Turning}
use Rattle.meet.proofs.turned_by.Given as goal

abbrev pub invariant-loop-i : goal.invariant-loop-i
invariant-loop-i l = Turning l.v l.a l.b l.n l.shift l.i
