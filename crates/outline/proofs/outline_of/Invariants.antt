use mathlib.Core.Path.{◌≡◌}
use mathlib.Core.List.{List, []}
use Prim.Native.Nat.{ℕ, ◌≤◌}
use lib.ListN.{length}
use lib.Ieee.{Float}
use Rattle.refusal.specs.Outcome.{each}
use Rattle.space.specs.declared.Plane.{Plane}
use Rattle.turns.specs.declared.Projected.{Projected}
use Rattle.outline.specs.declared.Outline.{Outline}
use Rattle.polygon.specs.Memory.{points_at}
use Rattle.outline.specs.Project.{projected_of, padded}
use Rattle.outline.specs.Laws.{left}
use Rattle.outline.proofs.outline_of.Given as goal

-- the corners that are made, and the rest
pub record Held (w : Plane) (s : List Float) (n : ℕ) (out : Outline) (i : ℕ) : Type 0 where
  pub made : List Projected
  pub at_is : out.at ≡ padded made
  pub many : length made ≡ i
  pub low : i ≤ n
  pub rest : left w s n i made ≡ each (projected_of w) [] (points_at s 0 n)

abbrev pub invariant-loop-i : goal.invariant-loop-i
invariant-loop-i l = Held l.plane l.s l.n l.out l.i
