-- `split_cells` of 000: every cell by every plane of both solids, with the room (12) and the budget of cells (11). Definitions only.
use Rattle.std.specs.Prelude.{◌≡◌, List, [], ◌∷◌, ◌++◌, ℕ, zero, suc, ◌+◌, length, take, Float}
use Rattle.refusal.specs.Outcome.{Outcome, then, walk}
use Rattle.space.specs.declared.Plane.{Plane}
use Rattle.space.specs.declared.Precision.{Precision}
use Rattle.space.specs.Shapes.{Cell}
use Rattle.side.specs.Sides.{opposite_of}
use Rattle.room.specs.Rooms.{plane_floats, plane_at}
use Rattle.stack.specs.Stacks.{cells_at, Lies}
use Rattle.split.specs.Splits.{split_cell}

-- both parts of each cell in order, by the plane p and its opposite o; 01, "Room": "A list begun afresh uses the whole room again"
unfoldable pub split_on : Precision → ℕ → Plane → Plane → List Cell → Outcome (List Cell)
split_on t room p o cs = walk (λ next c. split_cell t room p o c next) [] cs

-- the opposite is taken before any cell
unfoldable pub split_plane : Precision → ℕ → List Cell → Plane → Outcome (List Cell)
split_plane t room cs p = then (opposite_of t p) (λ o. split_on t room p o cs)

-- each plane in order: what one leaves is the list of the next
unfoldable pub split_all : Precision → ℕ → List Plane → List Cell → Outcome (List Cell)
split_all t room ps cs = walk (split_plane t room) cs ps

-- ---- planes in a slice, one behind another

-- n planes from a place on
unfoldable pub planes_at : List Float → ℕ → ℕ → List Plane
planes_at s i zero = []
planes_at s i (suc n) = plane_at s i ∷ planes_at s (i + 13) n

-- the planes of a cell's faces, as they lie in memory
unfoldable pub planes_floats : Cell → List Float
planes_floats [] = []
planes_floats (f ∷ c) = plane_floats f.plane ++ planes_floats c

unfoldable pub planes_of : Cell → List Plane
planes_of [] = []
planes_of (f ∷ c) = f.plane ∷ planes_of c

-- a list of k cells stands in the slices
pub record Standing (room k : ℕ) (d : List Float) (n z : List ℕ) : Type 0 where
  pub lies : Lies room (cells_at d 0 n (take k z)) d n z
  pub many : length (cells_at d 0 n (take k z)) ≡ k
