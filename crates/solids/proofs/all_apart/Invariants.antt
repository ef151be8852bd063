use mathlib.Core.Path.{◌≡◌}
use lib.ListN.{drop}
use Rattle.polygon.specs.Memory.{points_at}
use Rattle.solids.specs.Apart.{apart_all}
use Rattle.solids.proofs.all_apart.Given as goal

abbrev pub invariant-loop-i : goal.invariant-loop-i
invariant-loop-i l = apart_all l.t (drop l.i (points_at l.points 0 l.n)) ≡ apart_all l.t (points_at l.points 0 l.n)
