use Rattle.room.specs.Rooms.{cell_at, counts_at}
use Rattle.bounds.specs.Bounds.{points_in}
use Rattle.bounds.specs.Laws.{Testing}
use Rattle.bounds.proofs.against.Given as goal

abbrev pub invariant-loop-i : goal.invariant-loop-i
invariant-loop-i l = Testing (λ f. points_in l.strict l.t (cell_at l.src l.from (counts_at l.sizes l.j l.faces)) f.points) l.s l.at l.counts l.first l.n l.o l.i
