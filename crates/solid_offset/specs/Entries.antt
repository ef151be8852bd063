-- The calls of an offset and of a hollow from outside. Definitions only.
use Rattle.std.specs.Prelude.{◌≡◌, Bool, true, not, ◌&&◌, List, ℕ, ◌/◌, ◌≤◌, length, replicate, leb, Float}
use Rattle.std.specs.Float.{binary64}
use Rattle.std.specs.Float.Ieee.{of_bits}
use Rattle.refusal.specs.Outcome.{Outcome, then, unless}
use Rattle.space.specs.Shapes.{Cell, corners}
use Rattle.room.specs.Rooms.{cell_at, counts_at}
use Rattle.job.specs.declared.CellLayout.{CellLayout}
use Rattle.job.specs.Read.{solid_at}
use Rattle.bounds.specs.Bounds.{Lies}
use Rattle.hollow.specs.Hollows.{thick}
use Rattle.solid_check.specs.Check.{check_given}
use Rattle.jobs.specs.Jobs.{open_cell}
use Rattle.offset_answer.specs.Calls.{offset_call}
use Rattle.hollow_answer.specs.Calls.{hollow_call}

-- what is lent suffices: an answer of 64 bytes a corner of the room, and two rooms, the first with a place for two shells
unfoldable pub lent : ℕ → ℕ → ℕ → ℕ → ℕ → ℕ → Bool
lent room answer s counts dst sizes = leb room (answer / 64) && ((leb 3968 s && leb 128 counts) && (leb 1984 dst && leb 64 sizes))

-- "the solid", then the rest: "a non-finite offset is 2, after the solid"
unfoldable pub offset_laid : List ℕ → ℕ → Float → CellLayout → Outcome (List ℕ)
offset_laid l room d y = then (check_given y.precision (solid_at l y.solid)) (offset_call y.precision room d)

-- "Order: 1, 12 for an answer room below the work room, 2 for the tolerances, 28 (for a hollow), the first solid, … then 000's own order"
unfoldable pub offset_entry : Bool → ℕ → Float → List ℕ → Outcome (List ℕ)
offset_entry lends room d l = then (open_cell lends l) (offset_laid l room d)

-- 28 before the solid; "a non-finite thickness is 28"
unfoldable pub hollow_laid : List ℕ → ℕ → Float → CellLayout → Outcome (List ℕ)
hollow_laid l room w y = unless (not (thick y.precision w)) 28 (then (check_given y.precision (solid_at l y.solid)) (hollow_call y.precision room w))

unfoldable pub hollow_entry : Bool → ℕ → Float → List ℕ → Outcome (List ℕ)
hollow_entry lends room w l = then (open_cell lends l) (hollow_laid l room w)

-- the rooms are zero after every call
pub record Cleared (s : List Float) (counts : List ℕ) (dst : List Float) (sizes : List ℕ) (s' : List Float) (counts' : List ℕ) (dst' : List Float) (sizes' : List ℕ) : Type 0 where
  pub first : s' ≡ replicate (length s) (of_bits binary64 0)
  pub held : counts' ≡ replicate (length counts) 0
  pub second : dst' ≡ replicate (length dst) (of_bits binary64 0)
  pub sized : sizes' ≡ replicate (length sizes) 0

-- a checked cell at the front of the first room
pub record Given (s : List Float) (counts : List ℕ) (n : ℕ) : Type 0 where
  pub lies : Lies s 0 counts 0 n
  pub few : n ≤ 64
  pub held : corners 0 (cell_at s 0 (counts_at counts 0 n)) ≤ 384

-- both rooms
pub record Rooms (s counts dst sizes : ℕ) : Type 0 where
  pub floats : 3968 ≤ s
  pub counted : 128 ≤ counts
  pub place : 1984 ≤ dst
  pub slots : 64 ≤ sizes

-- where what is lent suffices, the rooms are there
pub record Ample (lends : Bool) (s counts dst sizes : ℕ) : Type 0 where
  pub rooms : lends ≡ true → Rooms s counts dst sizes
