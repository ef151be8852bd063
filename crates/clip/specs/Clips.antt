-- What the code of a cut leaves in the lent slices. Definitions only.
use Rattle.std.specs.Prelude.{◌≡◌, List, [], ℕ, ◌+◌, ◌*◌, ◌≤◌, length, Float, Ok, Err, Option, Some, None}
use Rattle.std.proofs.lemmas.List.Edits.{sets}
use Rattle.refusal.specs.declared.Refusal.{Refusal}
use Rattle.std.specs.Result.{IfOk}
use Rattle.refusal.specs.Outcome.{Outcome, then}
use Rattle.space.specs.declared.Plane.{Plane}
use Rattle.space.specs.declared.Precision.{Precision}
use Rattle.space.specs.Shapes.{Face, Cell, Part, nothing, part, corners}
use Rattle.polygon.specs.Memory.{points_at}
use Rattle.polygon.specs.Members.{All}
use Rattle.room.specs.Rooms.{cell_floats, cell_counts, counts_at, Within, Small}
use Rattle.cell.specs.declared.Kept.{Kept}
use Rattle.cell.specs.Cells.{Stored}
use Rattle.clip.specs.declared.Going.{Going}
use Rattle.clip.specs.Cuts.{Cutting}

-- a cell lies behind what the slices held, and the cap's points at the front of a slice of their own
pub record Held (d₀ : List Float) (at : ℕ) (n₀ : List ℕ) (k : ℕ) (o : Outcome Cutting) (s : Outcome Going) (cap d : List Float) (n : List ℕ) : Type 0 where
  pub cell : Cell
  pub is : then s (λ x. Ok (record { cell = cell; cap = points_at cap 0 x.caps })) ≡ o
  pub floats : d ≡ sets d₀ at (cell_floats cell)
  pub counts : n ≡ sets n₀ k (cell_counts cell)
  pub sized : IfOk s (λ x. (x.faces ≡ length cell) × (x.corners ≡ corners 0 cell))
  pub small : Small cell
  pub most : length cell ≤ 128

-- there is room for what a cut may add
pub record Space (room : ℕ) (face cap d : List Float) (at : ℕ) (n : List ℕ) (k : ℕ) : Type 0 where
  pub face_fits : 384 ≤ length face
  pub cap_fits : 3072 ≤ length cap
  pub place : at + 1664 + 3 * room ≤ length d
  pub slots : k + 128 ≤ length n

pub record Few (room : ℕ) (s : Going) : Type 0 where
  pub few : s.faces ≤ 128
  pub fit : s.corners ≤ room
  pub few_caps : s.caps ≤ 1024

-- one step: whatever cell lay there, the step's outcome of it lies there now
pub record Cutter (room at k : ℕ) (f : Cutting → Outcome Cutting) (s : Going) (r : Outcome Going) (cap d : List Float) (n : List ℕ) (cap' d' : List Float) (n' : List ℕ) : Type 0 where
  pub on : (d₀ : List Float) (n₀ : List ℕ) (o : Outcome Cutting) → Held d₀ at n₀ k o (Ok s) cap d n → Held d₀ at n₀ k (then o f) r cap' d' n'
  pub few : IfOk r (Few room)

-- the last step, from the cut to the cell
pub record Closer (at k : ℕ) (f : Cutting → Outcome Cell) (s : Going) (r : Outcome Kept) (cap d : List Float) (n : List ℕ) (d' : List Float) (n' : List ℕ) : Type 0 where
  pub on : (d₀ : List Float) (n₀ : List ℕ) (o : Outcome Cutting) → Held d₀ at n₀ k o (Ok s) cap d n → Stored d₀ at n₀ k (then o f) r d' n'

-- all faces of a cell
pub record Gone (room : ℕ) (d : List Float) (at : ℕ) (n : List ℕ) (k : ℕ) (o : Outcome Cutting) (s : Outcome Going) (cap d' : List Float) (n' : List ℕ) : Type 0 where
  pub held : Held d at n k o s cap d' n'
  pub few : IfOk s (Few room)

-- a cell in a room
pub record Given (src : List Float) (from : ℕ) (sizes : List ℕ) (j faces : ℕ) : Type 0 where
  pub listed : j + faces ≤ length sizes
  pub within : Within (counts_at sizes j faces) from (length src)

-- every face has at least three corners
abbrev pub Wide : Cell → Type 0
Wide c = All (λ f. 3 ≤ length f.points) c

-- what the slices behind the hull hold
pub record Hulls (flat : List Float) (order chain : List ℕ) : Type 0 where
  pub flat_fits : 2048 ≤ length flat
  pub order_fits : 1024 ≤ length order
  pub chain_fits : 2048 ≤ length chain

-- what is left of a cell: nothing, or a cell with its numbers of faces and corners
abbrev pub Clipped : Type 0
Clipped = Option Kept

-- 01's outcome for each answer: the part is the cell that lies behind the places
unfoldable pub told : Outcome Clipped → Cell → Outcome Part
told (Ok None) c = Ok nothing
told (Ok (Some x)) c = Ok (part c)
told (Err r) c = Err r

-- the answer that a cell under way ends in
unfoldable pub answered : Outcome Kept → Outcome Clipped
answered (Ok x) = Ok (Some x)
answered (Err r) = Err r

-- 01's number for each answer: 0 is an answer
unfoldable pub number_of_clipped : Outcome Clipped → ℕ
number_of_clipped (Ok None) = 0
number_of_clipped (Ok (Some x)) = 0
number_of_clipped (Err r) = r.number

-- nothing leaves the slices as they were, and a part says how many faces and corners it has
unfoldable pub Sized : Outcome Clipped → Cell → Type 0
Sized (Ok None) c = c ≡ []
Sized (Ok (Some x)) c = (x.faces ≡ length c) × (x.corners ≡ corners 0 c)
Sized (Err r) c = Unit {0}

-- the answer of a cut; at a refusal the faces that were added before it lie behind the places
pub record Clips (o : Outcome Part) (r : Outcome Clipped) (d : List Float) (at : ℕ) (n : List ℕ) (k : ℕ) (d' : List Float) (n' : List ℕ) : Type 0 where
  pub cell : Cell
  pub is : told r cell ≡ o
  pub floats : d' ≡ sets d at (cell_floats cell)
  pub counts : n' ≡ sets n k (cell_counts cell)
  pub sized : Sized r cell
  pub small : Small cell
