-- How an indexed solid lies in lent slices: its points three floats each, its faces' places one after another. Definitions only.
use Rattle.std.specs.Prelude.{◌≡◌, ℕ, ◌+◌, ◌*◌, ◌≤◌, Bool, true, false, List, [], ◌∷◌, ◌++◌, length, set, eqb, Float, Ok, Err}
use Rattle.std.proofs.lemmas.List.Edits.{sets}
use Rattle.refusal.specs.Outcome.{Outcome}
use Rattle.space.specs.declared.Point3.{Point3}
use Rattle.space.specs.Shapes.{Solid, corners}
use Rattle.polygon.specs.Memory.{floats, floats_of}
use Rattle.room.specs.Rooms.{Within, cell_at, counts_at}
use Rattle.indexed.specs.Indexed.{Places}

-- what the answer of a count or a place says
-- the places of all faces, one after another
unfoldable pub flat : List (List ℕ) → List ℕ
flat [] = []
flat (f ∷ l) = f ++ flat l

-- a slice of points, with q behind the first m of them where it is new
abbrev pub joined_at : List Float → ℕ → Point3 → Bool → List Float
joined_at p m q true = sets p (3 * m) (floats q)
joined_at p m q false = p

abbrev pub more : ℕ → Bool → ℕ
more m true = m + 1
more m false = m

-- after one corner: its place is stored at k, and a new point behind the m others
unfoldable pub Pointed : Outcome ℕ → ℕ → ℕ → Point3 → List Float → List ℕ → List Float → List ℕ → Outcome ℕ → Type 0
Pointed (Ok j) m k q p₀ i₀ p i r = (r ≡ Ok (more m (eqb j m))) × (p ≡ joined_at p₀ m q (eqb j m)) × (i ≡ set i₀ k j)
Pointed (Err x) m k q p₀ i₀ p i r = (r ≡ Err x) × (length p ≡ length p₀) × (length i ≡ length i₀)

-- after the n corners of a face: the points, m of them there before, and its places from k on
unfoldable pub Placed : Outcome Places → ℕ → ℕ → ℕ → List Float → List ℕ → List Float → List ℕ → Outcome ℕ → Type 0
Placed (Ok s) m n k p₀ i₀ p i r =
    (r ≡ Ok (length s.points)) × (m ≤ length s.points) × (length s.points ≤ m + n) × (length s.places ≡ n) × (p ≡ sets p₀ 0 (floats_of s.points)) × (i ≡ sets i₀ k s.places)
Placed (Err x) m n k p₀ i₀ p i r = (r ≡ Err x) × (length p ≡ length p₀) × (length i ≡ length i₀)

-- after a cell: how many points there are, the points, and the places; a refusal leaves the lengths alone
unfoldable pub Stored : Outcome Solid → List Float → List ℕ → List Float → List ℕ → Outcome ℕ → Type 0
Stored (Ok s) p₀ i₀ p i r = (r ≡ Ok (length s.points)) × (p ≡ sets p₀ 0 (floats_of s.points)) × (i ≡ sets i₀ 0 (flat s.faces))
Stored (Err x) p₀ i₀ p i r = (r ≡ Err x) × (length p ≡ length p₀) × (length i ≡ length i₀)

-- a cell lies in its slices, and its corners have room in the two others
pub record Fits (s : List Float) (counts : List ℕ) (at first n : ℕ) (p : List Float) (i : List ℕ) : Type 0 where
  pub faces : first + n ≤ length counts
  pub floats : Within (counts_at counts first n) at (length s)
  pub points : 3 * corners 0 (cell_at s at (counts_at counts first n)) ≤ length p
  pub places : corners 0 (cell_at s at (counts_at counts first n)) ≤ length i
