use Rattle.room.specs.Rooms.{counts_at}
use Rattle.solids.specs.Laws.{Judged}
use Rattle.solids.proofs.face_sides.Given as goal

abbrev pub invariant-loop-x : goal.invariant-loop-x
invariant-loop-x l = Judged l.t l.w (counts_at l.places l.at l.n) l.points l.m l.b l.x
