-- A list of cells in three lent slices, and its room (12). Definitions only.
use Rattle.std.specs.Prelude.{◌≡◌, Bool, true, false, List, [], ◌∷◌, ◌++◌, ℕ, ◌+◌, ◌-◌, ◌*◌, ◌≤◌, ◌<◌, length, take, drop, set, ltb, Float, Ok, Err, Some, None}
use Rattle.refusal.specs.Outcome.{Outcome, refusal_of, then, unless, heard}
use Rattle.space.specs.declared.Plane.{Plane}
use Rattle.space.specs.declared.Precision.{Precision}
use Rattle.space.specs.Shapes.{Cell, Part, nothing, part, corners, all_corners}
use Rattle.polygon.specs.Members.{All}
use Rattle.room.specs.Rooms.{cell_floats, cell_counts, cell_at, Small}
use Rattle.clip.specs.Cuts.{clip}
use Rattle.clip.specs.Clips.{Clipped, Wide, Hulls}
use Rattle.stack.specs.declared.Stack.{Stack}

-- ---- how a list of cells lies in memory

-- the floats of the cells, the numbers of corners of all their faces, and the numbers of faces of each
unfoldable pub cells_floats : List Cell → List Float
cells_floats [] = []
cells_floats (c ∷ cs) = cell_floats c ++ cells_floats cs

unfoldable pub cells_counts : List Cell → List ℕ
cells_counts [] = []
cells_counts (c ∷ cs) = cell_counts c ++ cells_counts cs

unfoldable pub cells_sizes : List Cell → List ℕ
cells_sizes [] = []
cells_sizes (c ∷ cs) = length c ∷ cells_sizes cs

-- the place behind a cell of faces with these numbers of corners
unfoldable pub behind : ℕ → List ℕ → ℕ
behind at [] = at
behind at (n ∷ ns) = behind (at + 13 + 3 * n) ns

-- the cells with these numbers of faces from a place on; ns has the numbers of corners of their faces at its front
unfoldable pub cells_at : List Float → ℕ → List ℕ → List ℕ → List Cell
cells_at s at ns [] = []
cells_at s at ns (m ∷ ms) = cell_at s at (take m ns) ∷ cells_at s (behind at (take m ns)) (drop m ns) ms

-- ---- the room of a list

-- 01, "Room": 12 where the list of cells would get more corners than the room, counted as each cell is added
unfoldable pub add_cell : ℕ → List Cell → Cell → Outcome (List Cell)
add_cell room cs c = unless (ltb room (all_corners (corners 0 c) cs)) 12 (Ok (cs ++ (c ∷ [])))

unfoldable pub add_part : ℕ → List Cell → Part → Outcome (List Cell)
add_part room cs nothing = Ok cs
add_part room cs (part c) = add_cell room cs c

-- the part of a cell below a plane joins the list
unfoldable pub add_cut : Precision → ℕ → Plane → Cell → List Cell → Outcome (List Cell)
add_cut t room w c cs = then (clip t room w c) (add_part room cs)

-- ---- what the code holds

-- how many cells, faces and corners the list has; a refusal has none
unfoldable pub stack_of : Outcome (List Cell) → Stack
stack_of (Ok cs) = record { verdict = Ok tt; cells = length cs; faces = length (cells_counts cs); corners = all_corners 0 cs }
stack_of (Err r) = record { verdict = Err r; cells = 0; faces = 0; corners = 0 }

-- the list that the slices hold
unfoldable pub list_at : Stack → List Float → List ℕ → List ℕ → Outcome (List Cell)
list_at s d n z = heard s.verdict (cells_at d 0 n (take s.cells z))

-- a slice begins with these elements; what stands behind them is free
pub record Front {A : Type 0} (l s : List A) : Type 0 where
  pub tail : List A
  pub is : s ≡ l ++ tail

-- a cell that is not empty, whose faces have 3 to 128 corners
pub record Sound (c : Cell) : Type 0 where
  pub some : 1 ≤ length c
  pub wide : Wide c
  pub small : Small c

-- the cells stand at the front of the slices, and have no more corners than the room
pub record Lies (room : ℕ) (cs : List Cell) (d : List Float) (n z : List ℕ) : Type 0 where
  pub floats : Front (cells_floats cs) d
  pub counts : Front (cells_counts cs) n
  pub sizes : Front (cells_sizes cs) z
  pub sound : All Sound cs
  pub fit : all_corners 0 cs ≤ room

-- a stack tells an outcome, and an answer stands in the slices; after a refusal they are free
pub record Listed (room : ℕ) (o : Outcome (List Cell)) (s : Stack) (d : List Float) (n z : List ℕ) : Type 0 where
  pub is : s ≡ stack_of o
  pub lies : (cs : List Cell) → o ≡ Ok cs → Lies room cs d n z

-- the slices hold what the stack says
abbrev pub Holds : ℕ → Stack → List Float → List ℕ → List ℕ → Type 0
Holds room s d n z = Listed room (list_at s d n z) s d n z

-- the slices are long enough for every list that fits the room, and for a cell behind it
pub record Places (room : ℕ) (d : List Float) (n z : List ℕ) : Type 0 where
  pub place : 11 * room + 1664 ≤ length d
  pub slots : room + 128 ≤ length n
  pub seats : room < length z

-- the work memory of a cut
pub record Work (face cap flat : List Float) (order chain : List ℕ) : Type 0 where
  pub face_fits : 384 ≤ length face
  pub cap_fits : 3072 ≤ length cap
  pub hulls : Hulls flat order chain

-- ---- one cell more, by its numbers of faces and corners

unfoldable pub is_over : ℕ → ℕ → ℕ → Bool
is_over room held n = ltb (room - held) n

unfoldable pub pushed : Bool → Stack → ℕ → ℕ → Stack
pushed true s faces n = stack_of (Err (refusal_of 12))
pushed false s faces n = record { verdict = Ok tt; cells = s.cells + 1; faces = s.faces + faces; corners = s.corners + n }

unfoldable pub seated : Bool → Stack → ℕ → List ℕ → List ℕ
seated true s faces z = z
seated false s faces z = set z s.cells faces

-- what a cut answers joins the list
unfoldable pub joined : ℕ → Stack → Outcome Clipped → Stack
joined room s (Ok None) = s
joined room s (Ok (Some x)) = pushed (is_over room s.corners x.corners) s x.faces x.corners
joined room s (Err r) = stack_of (Err r)

unfoldable pub joined_sizes : ℕ → Stack → Outcome Clipped → List ℕ → List ℕ
joined_sizes room s (Ok None) z = z
joined_sizes room s (Ok (Some x)) z = seated (is_over room s.corners x.corners) s x.faces z
joined_sizes room s (Err r) z = z

-- three corners or more for each face
unfoldable pub Broad : Outcome Clipped → Type 0
Broad (Ok None) = Unit {0}
Broad (Ok (Some x)) = 3 * x.faces ≤ x.corners
Broad (Err r) = Unit {0}
