use Rattle.refusal.specs.Outcome.{verdict_of}
use Rattle.polygon.specs.Memory.{points_at}
use Rattle.solids.specs.Frames.{plane_for}
use Rattle.solids.specs.Faces.{Facing}
use Rattle.solids.proofs.all_framed.Given as goal

abbrev pub invariant-loop-j : goal.invariant-loop-j
invariant-loop-j l = Facing (λ f. verdict_of (plane_for l.t (points_at l.points 0 l.m) f)) l.places l.counts l.n l.at l.j
