-- How a hollow solid lies in lent slices. Definitions only.
use Rattle.std.specs.Prelude.{◌≡◌, List, ℕ, ◌+◌, ◌*◌, length, Float, Ok, Err}
use Rattle.std.proofs.lemmas.List.Edits.{sets}
use Rattle.refusal.specs.Outcome.{Outcome}
use Rattle.space.specs.Shapes.{Cell, corners}
use Rattle.room.specs.Rooms.{cell_floats, cell_counts, cell_at, counts_at}
use Rattle.bounds.specs.Bounds.{Lies}
use Rattle.offset.specs.Stored.{Place}
use Rattle.hollow.specs.Hollows.{Hollow}

-- the place behind a cell of n faces
abbrev pub behind : ℕ → ℕ → Cell → ℕ
behind to n c = to + 13 * n + 3 * corners 0 c

-- the inner shell stands from two places on, behind the outer one, which is as it was; a refusal leaves only the lengths as they were
unfoldable pub Walled : Outcome Hollow → List Float → ℕ → List ℕ → ℕ → List Float → List ℕ → Outcome Unit → Type 0
Walled (Ok h) d₀ to n₀ k d ns v = (v ≡ Ok tt) × (d ≡ sets d₀ to (cell_floats h.inner)) × (ns ≡ sets n₀ k (cell_counts h.inner))
Walled (Err r) d₀ to n₀ k d ns v = (v ≡ Err r) × (length d ≡ length d₀) × (length ns ≡ length n₀)

-- the outer cell stands in two slices, with a place behind it for the inner one; the moved cell and the built one stand in others
pub record Walls (m : List Float) (mat : ℕ) (mcounts : List ℕ) (mfirst mn : ℕ) (s : List Float) (from : ℕ) (counts : List ℕ) (first n : ℕ) (d : List Float) (to : ℕ) (sizes : List ℕ) (k faces : ℕ) : Type 0 where
  pub outer : Lies d to sizes k faces
  pub moved : Lies m mat mcounts mfirst mn
  pub built : Lies s from counts first n
  pub place : Place counts first n d (behind to faces (cell_at d to (counts_at sizes k faces))) sizes (k + faces)
