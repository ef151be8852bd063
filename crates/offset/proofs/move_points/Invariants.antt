use Rattle.offset.specs.Stored.{moving_at}
use Rattle.offset.specs.Laws.{Shifting}
use Rattle.offset.proofs.move_points.Given as goal

abbrev pub invariant-loop-x : goal.invariant-loop-x
invariant-loop-x l = Shifting l.t (moving_at l.s l.at l.counts l.first l.n l.by l.places) l.points l.m l.initial.moved l.moved l.x
