-- Two facets of a body are in one shell exactly when they connect through edges inside that body.
use Rattle.std.proofs.Math.Path.{◌≡◌}
use Rattle.std.specs.Prelude.{◌↔◌, Ok}
use mathlib.Core.List.{List}
use mathlib.Mathlib.Logic.Relation.{ReflTransGenᴰ}
use Prim.Native.Nat.{ℕ, ◌+◌, ◌≤◌}
use Rattle.sums.specs.Sum.{◌∈◌}
use Rattle.bodies.specs.Fusing.{Facet, runs, check_edges}
use Rattle.bodies.specs.EdgeLaws.{runs_edge}

-- Two facets of a list have an edge in common.
pub record Touch (fs : List Facet) (l : List ℕ) (i j : ℕ) : Type 0 where
  pub a : ℕ
  pub d : ℕ
  pub i_in : i ∈ l
  pub j_in : j ∈ l
  pub i_runs : 1 ≤ runs_edge fs i a d + runs_edge fs i d a
  pub j_runs : 1 ≤ runs_edge fs j a d + runs_edge fs j d a

-- Touching facets are neighbours.
module _ (fs : List Facet) (faces : List ℕ) (fine : check_edges (runs fs 0 faces) ≡ Ok tt) where
  -- A group of places is a shell of facets.
  unfoldable pub OneShell : List ℕ → Type 0
  OneShell g = (i j : ℕ) → i ∈ g → j ∈ faces → (j ∈ g) ↔ ReflTransGenᴰ (Touch fs faces) i j
