-- The arrangement of a list of cells: 6, 13, 14, then 15 to 17 and 12 facet by facet. Definitions only.
use Rattle.std.specs.Prelude.{◌≡◌, List, [], ◌∷◌, ◌++◌, map, ℕ, ◌+◌, ◌*◌, ◌≤◌, ◌<◌, length, take, Float, Ok, Err}
use Rattle.std.proofs.lemmas.List.Edits.{sets}
use Rattle.refusal.specs.Outcome.{Outcome, then}
use Rattle.space.specs.declared.Point3.{Point3}
use Rattle.space.specs.declared.Precision.{Precision}
use Rattle.space.specs.Shapes.{Cell, Solid, corners}
use Rattle.polygon.specs.Memory.{floats_of}
use Rattle.room.specs.Rooms.{cell_counts, cell_at, counts_at, Within, Small}
use Rattle.clip.specs.Clips.{Wide}
use Rattle.indexed.specs.Stored.{flat}
use Rattle.stack.specs.Stacks.{cells_counts, cells_sizes, cells_at, Lies}
use Rattle.merge.specs.Merge.{owners_from}
use Rattle.arrange.specs.Arrange.{arrange}
use Rattle.groups.specs.Groups.{bounds}
use Rattle.arrangement.specs.declared.Layout.{Layout}

-- the faces of all cells, one behind another
unfoldable pub faces_of : List Cell → Cell
faces_of [] = []
faces_of (c ∷ cs) = c ++ faces_of cs

-- the vertices, the facets' cycles of places, and the cell of each facet
pub record Arrangement : Type 0 where
  pub points : List Point3
  pub cycles : List (List ℕ)
  pub owners : List ℕ

unfoldable pub arrange_cells : Precision → ℕ → List Cell → Outcome Arrangement
arrange_cells t room cs = then (arrange t room (faces_of cs)) (λ s. Ok (record { points = s.points; cycles = s.faces; owners = owners_from 0 (cells_sizes cs) }))

-- where each of some runs of these lengths begins, from a place on, and where the last one ends
unfoldable pub starts_from : ℕ → List ℕ → List ℕ
starts_from a [] = a ∷ []
starts_from a (n ∷ ns) = a ∷ starts_from (a + n) ns

-- ---- what the code holds

unfoldable pub layout_of : Outcome Solid → Outcome Layout
layout_of (Ok s) = Ok (record { points = length s.points; facets = length s.faces; vertices = length (flat s.faces) })
layout_of (Err r) = Err r

unfoldable pub layout_by : ℕ → ℕ → Outcome ℕ → Outcome Layout
layout_by n faces (Ok m) = Ok (record { points = n; facets = faces; vertices = m })
layout_by n faces (Err r) = Err r

-- the points, the cycles and the cycles' lengths; after a refusal the slices are free
pub record Shaped (o : Outcome Solid) (p₀ : List Float) (c₀ z₀ : List ℕ) (p : List Float) (c z : List ℕ) (r : Outcome Layout) : Type 0 where
  pub is : r ≡ layout_of o
  pub points : (s : Solid) → o ≡ Ok s → p ≡ sets p₀ 0 (floats_of s.points)
  pub cycles : (s : Solid) → o ≡ Ok s → c ≡ sets c₀ 0 (flat s.faces)
  pub lengths : (s : Solid) → o ≡ Ok s → z ≡ sets z₀ 0 (map length s.faces)

unfoldable pub laid_of : Outcome Arrangement → Outcome Layout
laid_of (Ok a) = Ok (record { points = length a.points; facets = length a.cycles; vertices = length (flat a.cycles) })
laid_of (Err r) = Err r

-- the points, the cycles, where each begins, and the owners; after a refusal the slices are free
pub record Laid (o : Outcome Arrangement) (p₀ : List Float) (c₀ s₀ w₀ : List ℕ) (p : List Float) (c s w : List ℕ) (r : Outcome Layout) : Type 0 where
  pub is : r ≡ laid_of o
  pub points : (a : Arrangement) → o ≡ Ok a → p ≡ sets p₀ 0 (floats_of a.points)
  pub cycles : (a : Arrangement) → o ≡ Ok a → c ≡ sets c₀ 0 (flat a.cycles)
  pub starts : (a : Arrangement) → o ≡ Ok a → s ≡ sets s₀ 0 (bounds 0 a.cycles)
  pub owners : (a : Arrangement) → o ≡ Ok a → w ≡ sets w₀ 0 a.owners

-- some faces stand at the front of the slices, with no more corners than the room
pub record Facing (room faces : ℕ) (d : List Float) (n : List ℕ) : Type 0 where
  pub listed : faces ≤ length n
  pub within : Within (counts_at n 0 faces) 0 (length d)
  pub small : Small (cell_at d 0 (counts_at n 0 faces))
  pub wide : Wide (cell_at d 0 (counts_at n 0 faces))
  pub counts : cell_counts (cell_at d 0 (counts_at n 0 faces)) ≡ counts_at n 0 faces
  pub fit : corners 0 (cell_at d 0 (counts_at n 0 faces)) ≤ room

-- k cells of some faces in all stand in the slices
pub record Stands (room k faces : ℕ) (d : List Float) (n z : List ℕ) : Type 0 where
  pub lies : Lies room (cells_at d 0 n (take k z)) d n z
  pub cells : length (cells_at d 0 n (take k z)) ≡ k
  pub faces_are : length (cells_counts (cells_at d 0 n (take k z))) ≡ faces

-- the slices are long enough for the points, the corners and the cycles' lengths
pub record Work (room faces : ℕ) (p : List Float) (k z : List ℕ) : Type 0 where
  pub low : room ≤ 4611686018427387904
  pub points : 3 * room ≤ length p
  pub corners : room ≤ length k
  pub lengths : faces ≤ length z

-- and all of them, for whatever list fits the room
pub record Lent (room : ℕ) (p : List Float) (k c z s w : List ℕ) : Type 0 where
  pub low : room ≤ 4611686018427387904
  pub points : 3 * room ≤ length p
  pub corners : room ≤ length k
  pub cycles : room ≤ length c
  pub lengths : room ≤ length z
  pub starts : room < length s
  pub owners : room ≤ length w
