use Rattle.hollow.specs.Laws.{Turning}
use Rattle.hollow.proofs.reverse_points.Given as goal

abbrev pub invariant-loop-i : goal.invariant-loop-i
invariant-loop-i l = Turning l.src l.at l.n l.initial.dst l.to l.dst l.o l.i
