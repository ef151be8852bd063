use Rattle.polygon.specs.Memory.{points_at}
use Rattle.offset.specs.Laws.{Building}
use Rattle.offset.proofs.move_faces.Given as goal

abbrev pub invariant-loop-j : goal.invariant-loop-j
invariant-loop-j l = Building l.t (points_at l.moved 0 l.m) l.s l.at l.counts l.first l.n l.by l.places l.initial.dst l.to l.initial.sizes l.k l.dst l.sizes l.o l.p l.q l.j
