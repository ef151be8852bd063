use mathlib.Core.Path.{◌≡◌}
use lib.ListN.{drop}
use Rattle.lists.specs.Walks.{all}
use Rattle.space.specs.Vector.{fair_point}
use Rattle.polygon.specs.Memory.{points_at}
use Rattle.solids.specs.Order.{fair_all}
use Rattle.solids.proofs.all_fair.Given as goal

abbrev pub invariant-loop-i : goal.invariant-loop-i
invariant-loop-i l = all fair_point l.fine (drop l.i (points_at l.points 0 l.m)) ≡ fair_all (points_at l.points 0 l.m)
