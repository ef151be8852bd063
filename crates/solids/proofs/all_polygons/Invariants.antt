use mathlib.Core.Path.{◌≡◌}
use mathlib.Core.Bool.{true}
use lib.ListN.{drop}
use Rattle.lists.specs.Walks.{all}
use Rattle.room.specs.Rooms.{counts_at}
use Rattle.solids.specs.Order.{within}
use Rattle.solids.proofs.all_polygons.Given as goal

abbrev pub invariant-loop-j : goal.invariant-loop-j
invariant-loop-j l = all (within 3 64) l.fine (drop l.j (counts_at l.counts 0 l.n)) ≡ all (within 3 64) true (counts_at l.counts 0 l.n)
