use Rattle.polygon.specs.Memory.{points_at}
use Rattle.room.specs.Rooms.{counts_at}
use Rattle.solids.specs.Turning.{Turning}
use Rattle.solids.proofs.face_turns.Given as goal

abbrev pub invariant-loop-k : goal.invariant-loop-k
invariant-loop-k l = Turning l.t l.w (counts_at l.places l.at l.n) (points_at l.points 0 l.m) l.n l.k l.a l.b
