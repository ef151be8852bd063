use Rattle.polygon.specs.Memory.{points_at}
use Rattle.solid_check.specs.Storing.{Putting}
use Rattle.solid_check.proofs.put_faces.Given as goal

abbrev pub invariant-loop-j : goal.invariant-loop-j
invariant-loop-j l = Putting l.t (points_at l.points 0 l.m) l.places l.counts l.n l.initial.s l.s l.at l.o l.j
