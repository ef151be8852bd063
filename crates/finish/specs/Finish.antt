-- The solids of a list of cells, one after another, and how they lie in lent slices. Definitions only.
use Rattle.std.specs.Prelude.{◌≡◌, List, [], ◌∷◌, ◌++◌, map, ℕ, ◌+◌, ◌*◌, ◌≤◌, length, take, drop, Float, Ok, Err}
use Rattle.std.proofs.lemmas.List.Edits.{sets}
use Rattle.refusal.specs.Outcome.{Outcome, each, heard, verdict_of}
use Rattle.space.specs.declared.Precision.{Precision}
use Rattle.space.specs.Shapes.{Cell, Solid, corners}
use Rattle.polygon.specs.Memory.{floats_of}
use Rattle.room.specs.Rooms.{cell_at, counts_at, Within}
use Rattle.sums.specs.Sum.{sum}
use Rattle.stack.specs.Stacks.{Front}
use Rattle.indexed.specs.Stored.{flat}
use Rattle.solid_check.specs.Check.{solid_at}
use Rattle.built.specs.Built.{built}

-- the whole list stands; then cell after cell is indexed and checked, and the first refusal decides
unfoldable pub finish : Precision → List Cell → Outcome (List Solid)
finish t cs = each (built t) [] cs

-- how many corners faces with these numbers of corners have
abbrev pub total : List ℕ → ℕ
total ns = sum (λ n. n) ns

-- ---- how a list of solids lies in memory

-- the floats of the points of all solids, and the places of the corners of all their faces
unfoldable pub solids_floats : List Solid → List Float
solids_floats [] = []
solids_floats (s ∷ ss) = floats_of s.points ++ solids_floats ss

unfoldable pub solids_places : List Solid → List ℕ
solids_places [] = []
solids_places (s ∷ ss) = flat s.faces ++ solids_places ss

-- the numbers of corners of all their faces; of each solid the number of faces, and of points
unfoldable pub solids_counts : List Solid → List ℕ
solids_counts [] = []
solids_counts (s ∷ ss) = map length s.faces ++ solids_counts ss

unfoldable pub solids_sizes : List Solid → List ℕ
solids_sizes [] = []
solids_sizes (s ∷ ss) = length s.faces ∷ solids_sizes ss

unfoldable pub solids_marks : List Solid → List ℕ
solids_marks [] = []
solids_marks (s ∷ ss) = length s.points ∷ solids_marks ss

-- the solids with these numbers of points and of faces that stand at the front of the slices
unfoldable pub solids_at : List Float → List ℕ → List ℕ → List ℕ → List ℕ → List Solid
solids_at p i c [] zs = []
solids_at p i c (m ∷ ms) [] = []
solids_at p i c (m ∷ ms) (n ∷ zs) = solid_at p m i c n ∷ solids_at (drop (3 * m) p) (drop (total (take n c)) i) (drop n c) ms zs

-- what a verdict and the slices say, of so many solids
unfoldable pub solids_told : Outcome Unit → ℕ → List Float → List ℕ → List ℕ → List ℕ → List ℕ → Outcome (List Solid)
solids_told v k p i c z m = heard v (solids_at p i c (take k m) (take k z))

-- k solids stand at the front of the slices: the floats of their points, the places, the numbers of corners and of faces, and the
-- numbers of points; there are no more points than corners, three corners or more for each face, and no more corners than the room
pub record Lain (room k : ℕ) (ss : List Solid) (p : List Float) (i c z m : List ℕ) : Type 0 where
  pub many : k ≡ length ss
  pub points : Front (solids_floats ss) p
  pub places : Front (solids_places ss) i
  pub counts : Front (solids_counts ss) c
  pub sizes : Front (solids_sizes ss) z
  pub marks : Front (solids_marks ss) m
  pub few : length (solids_floats ss) ≤ 3 * length (solids_places ss)
  pub wide : 3 * length (solids_counts ss) ≤ length (solids_places ss)
  pub some : length ss ≤ length (solids_counts ss)
  pub fit : length (solids_places ss) ≤ room

-- a verdict tells an outcome, and the k solids of an answer stand in the slices; after a refusal they are free
pub record Finished (room k : ℕ) (o : Outcome (List Solid)) (v : Outcome Unit) (p : List Float) (i c z m : List ℕ) : Type 0 where
  pub is : v ≡ verdict_of o
  pub lain : (ss : List Solid) → o ≡ Ok ss → Lain room k ss p i c z m

-- the slices hold what the verdict says
abbrev pub Holding : ℕ → ℕ → Outcome Unit → List Float → List ℕ → List ℕ → List ℕ → List ℕ → Type 0
Holding room k v p i c z m = Finished room k (solids_told v k p i c z m) v p i c z m

-- the slices have a place for the solids of every list that fits the room
pub record Shelf (room : ℕ) (p : List Float) (i m : List ℕ) : Type 0 where
  pub points : 3 * room ≤ length p
  pub places : room ≤ length i
  pub marks : room ≤ length m

-- ---- one cell

-- the cell of n faces and c corners lies in its slices, and has a place behind p floats and q places
pub record Space (d : List Float) (o : ℕ) (ns : List ℕ) (f n c : ℕ) (s : List Float) (p : ℕ) (i : List ℕ) (q : ℕ) : Type 0 where
  pub listed : f + n ≤ length ns
  pub within : Within (counts_at ns f n) o (length d)
  pub many : corners 0 (cell_at d o (counts_at ns f n)) ≡ c
  pub points : p + 3 * c ≤ length s
  pub places : q + c ≤ length i

-- after a cell: how many points it has, its points behind p floats, and its places behind q others; a refusal leaves the lengths alone
unfoldable pub Behind : Outcome Solid → ℕ → ℕ → List Float → List ℕ → List Float → List ℕ → Outcome ℕ → Type 0
Behind (Ok s) p q s₀ i₀ s₁ i₁ r = (r ≡ Ok (length s.points)) × (s₁ ≡ sets s₀ p (floats_of s.points)) × (i₁ ≡ sets i₀ q (flat s.faces))
Behind (Err x) p q s₀ i₀ s₁ i₁ r = (r ≡ Err x) × (length s₁ ≡ length s₀) × (length i₁ ≡ length i₀)
