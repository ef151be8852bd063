use mathlib.Core.Path.{◌≡◌}
use Prim.Native.Nat.{◌+◌, ◌*◌}
use lib.ListN.{drop}
use Rattle.polygon.specs.Memory.{point_at, points_at}
use Rattle.solids.specs.Apart.{apart_from}
use Rattle.solids.proofs.apart_from.Given as goal

abbrev pub invariant-loop-j : goal.invariant-loop-j
invariant-loop-j l = apart_from l.t l.q (drop l.j (points_at l.points 0 l.n)) ≡ apart_from l.t (point_at l.points (3 * l.i)) (drop (l.i + 1) (points_at l.points 0 l.n))
