use mathlib.Core.Path.{◌≡◌}
use mathlib.Core.Bool.{true}
use Prim.Native.Nat.{◌*◌, ◌-◌, ◌≤◌}
use Rattle.lists.specs.Walks.{all}
use Rattle.space.specs.Vector.{finite_point}
use Rattle.polygon.specs.Memory.{points_at}
use Rattle.mesh.proofs.are_finite.Given as goal

abbrev pub invariant-loop-i : goal.invariant-loop-i
invariant-loop-i l = (l.i ≤ l.n) × (all finite_point l.fair (points_at l.s (3 * l.i) (l.n - l.i)) ≡ all finite_point true (points_at l.s 0 l.n))
