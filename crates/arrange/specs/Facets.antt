-- How the facets of an arrangement lie in lent slices. Definitions only.
use Rattle.std.specs.Prelude.{◌≡◌, ℕ, ◌+◌, ◌*◌, ◌≤◌, List, [], ◌∷◌, map, length, Float, Ok, Err}
use Rattle.std.proofs.lemmas.List.Edits.{sets}
use Rattle.refusal.specs.Outcome.{Outcome}
use Rattle.room.specs.Rooms.{counts_at}
use Rattle.indexed.specs.Stored.{flat}
use Rattle.inside.specs.Slices.{Same, Roomy}
use Rattle.conform.specs.Cycles.{Among}

-- cycles of these numbers of corners from a place on, each corner one of n points
unfoldable pub Cycles : ℕ → List ℕ → ℕ → List ℕ → Type 0
Cycles n l at [] = Unit {0}
Cycles n l at (c ∷ cs) = Among n l at c × Cycles n l (at + c) cs

-- what is given, and what is lent
pub record Given (limit : ℕ) (s : List Float) (n : ℕ) (l counts : List ℕ) (faces : ℕ) (a b : List Float) (k z : List ℕ) : Type 0 where
  pub room : limit ≤ 4611686018427387904
  pub points : 3 * n ≤ length s
  pub few : n ≤ 4096
  pub faces_in : faces ≤ length counts
  pub faces_out : faces ≤ length z
  pub cycles : Cycles n l 0 (counts_at counts 0 faces)
  pub lent : Roomy n a b k

-- the new cycles, one behind another, and their lengths; a refusal leaves the lengths of the slices alone
unfoldable pub Arranged : Outcome (List (List ℕ)) → List Float → List Float → List ℕ → List ℕ → List ℕ → List Float → List Float → List ℕ → List ℕ → List ℕ → Outcome ℕ → Type 0
Arranged (Ok fs) a₀ b₀ k₀ o₀ z₀ a b k o z r = (r ≡ Ok (length (flat fs))) × (o ≡ sets o₀ 0 (flat fs)) × (z ≡ sets z₀ 0 (map length fs)) × Same a₀ b₀ k₀ a b k
Arranged (Err x) a₀ b₀ k₀ o₀ z₀ a b k o z r = (r ≡ Err x) × (length o ≡ length o₀) × (length z ≡ length z₀) × Same a₀ b₀ k₀ a b k
