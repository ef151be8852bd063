-- How faces and cells lie in lent slices, and how they are read from them. Definitions only.
use Rattle.std.specs.Prelude.{◌≡◌, ◌⊎◌, List, [], ◌∷◌, ◌++◌, ℕ, ◌+◌, ◌*◌, ◌≤◌, length, take, drop, get_or, Float}
use Rattle.std.specs.Float.{nan}
use Rattle.space.specs.declared.Frame.{Frame}
use Rattle.space.specs.declared.Plane.{Plane}
use Rattle.space.specs.Shapes.{Face, Cell}
use Rattle.polygon.specs.Memory.{floats, floats_of, point_at, points_at}
use Rattle.polygon.specs.Members.{All}

-- how many numbers a plane takes: `room::PLANE`
abbrev pub plane_size : ℕ
plane_size = 13

-- a frame as it lies in memory, and at a place
abbrev pub frame_floats : Frame → List Float
frame_floats f = floats f.origin ++ floats f.x ++ floats f.y ++ floats f.z

abbrev pub frame_at : List Float → ℕ → Frame
frame_at s i = record { origin = point_at s i; x = point_at s (i + 3); y = point_at s (i + 6); z = point_at s (i + 9) }

-- a plane: its frame, then its mark
abbrev pub plane_floats : Plane → List Float
plane_floats w = frame_floats w.frame ++ (w.mark ∷ [])

abbrev pub plane_at : List Float → ℕ → Plane
plane_at s i = record { frame = frame_at s i; mark = get_or s (i + 12) nan }

-- a face: its plane, then its corners
abbrev pub face_floats : Face → List Float
face_floats f = plane_floats f.plane ++ floats_of f.points

-- a cell: its faces' floats, and their numbers of corners
unfoldable pub cell_floats : Cell → List Float
cell_floats [] = []
cell_floats (f ∷ c) = face_floats f ++ cell_floats c

unfoldable pub cell_counts : Cell → List ℕ
cell_counts [] = []
cell_counts (f ∷ c) = length f.points ∷ cell_counts c

-- the face of n corners at a place, and the cell of faces with these numbers of corners from a place on
abbrev pub face_at : List Float → ℕ → ℕ → Face
face_at s at n = record { plane = plane_at s at; points = points_at s (at + plane_size) n }

unfoldable pub cell_at : List Float → ℕ → List ℕ → Cell
cell_at s at [] = []
cell_at s at (n ∷ ns) = face_at s at n ∷ cell_at s (at + plane_size + 3 * n) ns

-- the numbers of corners of n faces, from the k-th on
abbrev pub counts_at : List ℕ → ℕ → ℕ → List ℕ
counts_at l k n = take n (drop k l)

-- such a cell lies within m floats, and no face of it has more than 128 corners
unfoldable pub Within : List ℕ → ℕ → ℕ → Type 0
Within [] at m = at ≤ m
Within (n ∷ ns) at m = (n ≤ 128) × Within ns (at + plane_size + 3 * n) m

-- x is one of the elements
unfoldable pub In : {A : Type 0} → A → List A → Type 0
In x [] = ⊥
In x (y ∷ l) = (x ≡ y) ⊎ In x l

-- no face has more than 128 corners
abbrev pub Small : Cell → Type 0
Small c = All (λ f. length f.points ≤ 128) c
