-- What stands in three slices that are handed in from outside: a list of cells, or 64. Definitions only.
use Rattle.std.specs.Prelude.{Bool, true, false, cond, not, ◌&&◌, List, [], ◌∷◌, ℕ, ◌+◌, ◌*◌, length, take, leb, Float, Ok}
use Rattle.refusal.specs.Outcome.{Outcome, unless}
use Rattle.space.specs.Shapes.{Cell}
use Rattle.stack.specs.Stacks.{cells_at}

unfoldable pub among : ℕ → ℕ → ℕ → Bool
among low high n = leb low n && leb n high

unfoldable pub all_among : ℕ → ℕ → List ℕ → Bool
all_among low high [] = true
all_among low high (n ∷ ns) = among low high n && all_among low high ns

unfoldable pub total : List ℕ → ℕ
total [] = 0
total (n ∷ ns) = n + total ns

-- numbers from low to high, whose sum is at most `most`
unfoldable pub sums : ℕ → ℕ → ℕ → List ℕ → Bool
sums low high most l = all_among low high l && leb (total l) most

-- their sum, or one above `most`
unfoldable pub total_by : ℕ → ℕ → ℕ → List ℕ → ℕ
total_by low high most l = cond (sums low high most l) (total l) (most + 1)

-- the faces of k cells, and the floats of so many faces, lie within their slices; a cell has 1 to 128 faces, a face 3 to 128 corners
unfoldable pub faces_stand : ℕ → ℕ → List Float → List ℕ → Bool
faces_stand room f d n = leb f (length n) && (sums 3 128 room (take f n) && leb (13 * f + 3 * total (take f n)) (length d))

unfoldable pub stands : ℕ → ℕ → List Float → List ℕ → List ℕ → Bool
stands room k d n z = leb room 4294967296 && (leb k (length z) && (sums 1 128 room (take k z) && faces_stand room (total (take k z)) d n))

-- the list of k cells that stands at the front of the slices
unfoldable pub list_in : ℕ → ℕ → List Float → List ℕ → List ℕ → Outcome (List Cell)
list_in room k d n z = unless (not (stands room k d n z)) 64 (Ok (cells_at d 0 n (take k z)))
