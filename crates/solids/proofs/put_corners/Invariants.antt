use Rattle.polygon.specs.Memory.{points_at}
use Rattle.solids.specs.Storing.{Dotting}
use Rattle.solids.proofs.put_corners.Given as goal

abbrev pub invariant-loop-i : goal.invariant-loop-i
invariant-loop-i l = Dotting (points_at l.points 0 l.m) l.places l.at l.n l.o l.initial.s l.s l.i
