use Rattle.room.specs.Rooms.{cell_at, counts_at}
use Rattle.bounds.specs.Bounds.{point_in}
use Rattle.bounds.specs.Laws.{Passing}
use Rattle.bounds.proofs.points_in.Given as goal

abbrev pub invariant-loop-i : goal.invariant-loop-i
invariant-loop-i l = Passing (point_in l.strict l.t (cell_at l.src l.from (counts_at l.sizes l.j l.faces))) l.s l.at l.n l.i
