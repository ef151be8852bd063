use Rattle.polygon.specs.Memory.{points_at}
use Rattle.solids.specs.Frames.{plane_for, sides_by}
use Rattle.solids.specs.Faces.{Facing}
use Rattle.solids.proofs.all_sides.Given as goal

abbrev pub invariant-loop-j : goal.invariant-loop-j
invariant-loop-j l = Facing (λ f. sides_by l.given l.t (plane_for l.t (points_at l.points 0 l.m) f) f (points_at l.points 0 l.m)) l.places l.counts l.n l.at l.j
