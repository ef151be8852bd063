-- A cell that grows face by face in a room: 12. Definitions only.
use Rattle.std.specs.Prelude.{◌≡◌, Bool, true, false, cond, ◌||◌, List, [], ◌∷◌, ◌++◌, ℕ, ◌+◌, ◌*◌, ◌≤◌, length, ltb, leb, Float, Ok, Err}
use Rattle.std.specs.Result.{IfOk}
use Rattle.std.proofs.lemmas.List.Edits.{sets}
use Rattle.refusal.specs.declared.Refusal.{Refusal}
use Rattle.refusal.specs.Outcome.{Outcome, then, unless, walk}
use Rattle.space.specs.Shapes.{Face, Cell, corners}
use Rattle.room.specs.Rooms.{cell_floats, cell_counts, counts_at, Within, Small}
use Rattle.cell.specs.declared.Kept.{Kept}

-- 01, "Room": 12 for the 129th face, and for more corners than the room, counted as each face is added
unfoldable pub is_full : ℕ → ℕ → ℕ → ℕ → Bool
is_full room faces held n = leb 128 faces || ltb room (held + n)

unfoldable pub add_face : ℕ → Cell → Face → Outcome Cell
add_face room c f = unless (is_full room (length c) (corners 0 c) (length f.points)) 12 (Ok (c ++ (f ∷ [])))

-- a face with fewer than three corners is dropped
unfoldable pub keep_face : Bool → ℕ → Cell → Face → Outcome Cell
keep_face true room c f = Ok c
keep_face false room c f = add_face room c f

-- a cell that is left whole is added again, face by face
unfoldable pub left_cell : ℕ → Cell → Outcome Cell
left_cell room c = walk (add_face room) [] c

-- how much of a cell is added, face by face: all of it, or the faces before the first that there is no room for
unfoldable pub added : ℕ → Cell → Cell → Cell
added room c [] = c
added room c (f ∷ fs) = cond (is_full room (length c) (corners 0 c) (length f.points)) c (added room (c ++ (f ∷ [])) fs)

-- what a cell that is added leaves in the slices, whether it is refused or not
pub record Filled (room : ℕ) (c : Cell) (d₀ : List Float) (at : ℕ) (n₀ : List ℕ) (k : ℕ) (d : List Float) (n : List ℕ) : Type 0 where
  pub floats : d ≡ sets d₀ at (cell_floats (added room [] c))
  pub counts : n ≡ sets n₀ k (cell_counts (added room [] c))

-- a cell lies behind what the slices held: its floats from `at` on, its faces' numbers of corners from `k` on
pub record Stored (d₀ : List Float) (at : ℕ) (n₀ : List ℕ) (k : ℕ) (o : Outcome Cell) (s : Outcome Kept) (d : List Float) (n : List ℕ) : Type 0 where
  pub cell : Cell
  pub is : then s (λ x. Ok cell) ≡ o
  pub floats : d ≡ sets d₀ at (cell_floats cell)
  pub counts : n ≡ sets n₀ k (cell_counts cell)
  pub sized : IfOk s (λ x. (x.faces ≡ length cell) × (x.corners ≡ corners 0 cell))
  pub most : length cell ≤ 128
  pub small : Small cell

-- 128 faces with as many corners as the room allows fit behind the two places, and there are no more
pub record Fits (room : ℕ) (s : Outcome Kept) (d : List Float) (at : ℕ) (n : List ℕ) (k : ℕ) : Type 0 where
  pub few : IfOk s (λ x. x.faces ≤ 128)
  pub fit : IfOk s (λ x. x.corners ≤ room)
  pub place : at + 1664 + 3 * room ≤ length d
  pub slots : k + 128 ≤ length n

-- one step: whatever cell lay there, the step's outcome of it lies there now; a refusal writes nothing
pub record Turned (room at k : ℕ) (f : Cell → Outcome Cell) (s r : Outcome Kept) (d : List Float) (n : List ℕ) (d' : List Float) (n' : List ℕ) : Type 0 where
  pub on : (d₀ : List Float) (n₀ : List ℕ) (o : Outcome Cell) → Stored d₀ at n₀ k o s d n → Stored d₀ at n₀ k (then o f) r d' n'
  pub few : IfOk r (λ x. x.faces ≤ 128)
  pub fit : IfOk r (λ x. x.corners ≤ room)
  pub kept : (e : Refusal) → r ≡ Err e → (d' ≡ d) × (n' ≡ n)

-- a cell that is read from one room, and a place for another that is made of it
pub record Ready (room : ℕ) (src : List Float) (from : ℕ) (src_counts : List ℕ) (j faces : ℕ) (d : List Float) (at : ℕ) (n : List ℕ) (k : ℕ) : Type 0 where
  pub listed : j + faces ≤ length src_counts
  pub within : Within (counts_at src_counts j faces) from (length src)
  pub place : at + 1664 + 3 * room ≤ length d
  pub slots : k + 128 ≤ length n
