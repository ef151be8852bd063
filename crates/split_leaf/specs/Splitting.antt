-- Splitting a list of cells that is handed in from outside. Definitions only.
use Rattle.std.specs.Prelude.{◌≡◌, Bool, true, false, not, ◌&&◌, List, [], ◌∷◌, ℕ, ◌+◌, ◌*◌, ◌/◌, length, leb, ltb, Float, Ok, Err}
use Rattle.std.proofs.lemmas.List.Edits.{sets}
use Rattle.refusal.specs.Outcome.{Outcome, then, unless, number_of}
use Rattle.space.specs.declared.Precision.{Precision}
use Rattle.space.specs.Shapes.{Cell, all_corners}
use Rattle.stack.specs.Stacks.{cells_counts, Lies}
use Rattle.splits.specs.Planes.{split_all, planes_at}
use Rattle.list_lent.specs.Lent.{list_in}

-- a room of at most 6,400 corners, slices for its lists, and three numbers to tell
unfoldable pub split_fits : ℕ → ℕ → ℕ → ℕ → ℕ → Bool
split_fits room d n z told = leb room 6400 && ((leb (11 * room + 1664) d && leb (room + 128) n) && (ltb room z && leb 3 told))

-- 000, `split_cells`, of the first k cells of the slices; 64 where they hold no list of cells
unfoldable pub split_lent : Precision → ℕ → List Float → ℕ → List Float → List ℕ → List ℕ → Outcome (List Cell)
split_lent t room planes k d n z = then (list_in room k d n z) (split_all t room (planes_at planes 0 (length planes / 13)))

-- how many cells, faces and corners; untouched at a refusal
unfoldable pub cells_told : List ℕ → Outcome (List Cell) → List ℕ
cells_told l (Ok cs) = sets l 0 (length cs ∷ length (cells_counts cs) ∷ all_corners 0 cs ∷ [])
cells_told l (Err r) = l

-- what was lent too short is left alone
unfoldable pub Alone : Bool → List Float → List ℕ → List ℕ → List Float → List ℕ → List ℕ → Type 0
Alone true d n z d' n' z' = Unit {0}
Alone false d n z d' n' z' = (d' ≡ d) × (n' ≡ n) × (z' ≡ z)

-- the parts stand at the front of the slices
pub record Split (room : ℕ) (fits : Bool) (o : Outcome (List Cell)) (r : ℕ) (d : List Float) (n z l : List ℕ) (d' : List Float) (n' z' l' : List ℕ) : Type 0 where
  pub number : r ≡ number_of (unless (not fits) 64 o)
  pub tells : l' ≡ cells_told l (unless (not fits) 64 o)
  pub lies : (cs : List Cell) → unless (not fits) 64 o ≡ Ok cs → Lies room cs d' n' z'
  pub alone : Alone fits d n z d' n' z'
