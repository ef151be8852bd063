-- How an offset lies in lent slices. Definitions only.
use Rattle.std.specs.Prelude.{◌≡◌, List, ℕ, ◌+◌, ◌*◌, ◌≤◌, length, take, Float, Ok, Err}
use Rattle.std.proofs.lemmas.List.Edits.{sets}
use Rattle.refusal.specs.Outcome.{Outcome}
use Rattle.space.specs.declared.Point3.{Point3}
use Rattle.space.specs.Shapes.{Face, Cell, corners}
use Rattle.polygon.specs.Memory.{floats_of}
use Rattle.room.specs.Rooms.{face_floats, cell_floats, cell_counts, cell_at, counts_at, Within, Small}
use Rattle.indexed.specs.Stored.{Fits}
use Rattle.solids.specs.Frames.{faces_at, Placing}
use Rattle.bounds.specs.Bounds.{Lies}
use Rattle.offset.specs.Offsets.{Moving, moving}

-- a cell in a room, the places of its corners face after face, and a distance for each face
pub record Source (s : List Float) (at : ℕ) (counts : List ℕ) (first n : ℕ) (by : List Float) (i : List ℕ) : Type 0 where
  pub lies : Lies s at counts first n
  pub placing : Placing (counts_at counts first n) 0 (length i)
  pub distances : n ≤ length by

abbrev pub moving_at : List Float → ℕ → List ℕ → ℕ → ℕ → List Float → List ℕ → List Moving
moving_at s at counts first n by i = moving (cell_at s at (counts_at counts first n)) (faces_at i 0 (counts_at counts first n)) (take n by)

-- after the points: all m of them stand at the front of a slice
unfoldable pub PointsMoved : Outcome (List Point3) → ℕ → List Float → List Float → Outcome Unit → Type 0
PointsMoved (Ok qs) m d₀ d v = (v ≡ Ok tt) × (length qs ≡ m) × (d ≡ sets d₀ 0 (floats_of qs))
PointsMoved (Err r) m d₀ d v = (v ≡ Err r) × (length d ≡ length d₀)

-- after a face: its plane and its corners stand from a place on
unfoldable pub FaceMoved : Outcome Face → ℕ → List Float → List Float → Outcome Unit → Type 0
FaceMoved (Ok f) to d₀ d v = (v ≡ Ok tt) × (d ≡ sets d₀ to (face_floats f))
FaceMoved (Err r) to d₀ d v = (v ≡ Err r) × (length d ≡ length d₀)

-- after a cell of n faces: its floats and its counts stand from two places on; a refusal leaves only the lengths as they were
unfoldable pub CellMoved : Outcome Cell → ℕ → List Float → ℕ → List ℕ → ℕ → List Float → List ℕ → Outcome Unit → Type 0
CellMoved (Ok c) n d₀ to n₀ k d ns v =
    (v ≡ Ok tt) × (d ≡ sets d₀ to (cell_floats c)) × (ns ≡ sets n₀ k (cell_counts c)) × (length c ≡ n) × (to + 13 * n + 3 * corners 0 c ≤ length d₀) × Small c
CellMoved (Err r) n d₀ to n₀ k d ns v = (v ≡ Err r) × (length d ≡ length d₀) × (length ns ≡ length n₀)

-- a place for a cell with as many corners in each face
pub record Place (counts : List ℕ) (first n : ℕ) (d : List Float) (to : ℕ) (sizes : List ℕ) (k : ℕ) : Type 0 where
  pub floats : Within (counts_at counts first n) to (length d)
  pub slots : k + n ≤ length sizes

-- all that an offset works in: the cell and its distances, its points and places, the moved points, and a place for the moved cell
pub record Ready (s : List Float) (at : ℕ) (counts : List ℕ) (first n : ℕ) (by points : List Float) (places : List ℕ) (moved d : List Float) (to : ℕ) (sizes : List ℕ) (k : ℕ) : Type 0 where
  pub fits : Fits s counts at first n points places
  pub distances : n ≤ length by
  pub moves : 3 * corners 0 (cell_at s at (counts_at counts first n)) ≤ length moved
  pub place : Place counts first n d to sizes k
