-- The hollow solid: 28; the solid; its offset; the inner solid built; 7, 29; 5; 12. Definitions only.
use Rattle.std.specs.Prelude.{ℕ, ◌+◌, Bool, true, not, ◌&&◌, cond, [], reverse, ltb, Float, Ok, Err}
use Rattle.std.specs.Float.Ieee.{neg}
use Rattle.float.specs.Float.{finite}
use Rattle.refusal.specs.Outcome.{Outcome, refusal_of, then, unless, each, heard}
use Rattle.interval.specs.Ends.{point_i, sub_i, sign_of}
use Rattle.space.specs.declared.Precision.{Precision}
use Rattle.space.specs.Shapes.{Face, Cell, corners}
use Rattle.side.specs.Sides.{is_positive, opposite_of}
use Rattle.bounds.specs.Bounds.{against}
use Rattle.offset.specs.Offsets.{offset_cell}

-- 28: "wall not certified above linear"; "a non-finite thickness is 28"
unfoldable pub thick : Precision → Float → Bool
thick t w = finite w && is_positive (sign_of (sub_i (point_i w) (point_i t.linear)))

-- "A reversed facet has its corners reversed and the opposite plane"
unfoldable pub reversed_face : Precision → Face → Outcome Face
reversed_face t f = then (opposite_of t f.plane) (λ w. Ok (record { plane = w; points = reverse f.points }))

-- "In the hollow solid the outer shell precedes the inner"
pub record Hollow : Type 0 where
  pub outer : Cell
  pub inner : Cell

-- 12: "last of all when the finished answer has more"
unfoldable pub room_for : ℕ → ℕ → Outcome Unit
room_for room n = cond (ltb room n) (Err (refusal_of 12)) (Ok tt)

unfoldable pub hollow_room : ℕ → Hollow → Outcome Hollow
hollow_room room h = heard (room_for room (corners 0 h.outer + corners 0 h.inner)) h

-- the inner cell is the built one, reversed
unfoldable pub hollow_of : Precision → ℕ → Cell → Cell → Outcome Hollow
hollow_of t room outer built = then (each (reversed_face t) [] built) (λ inner. hollow_room room (record { outer = outer; inner = inner }))

-- the moved corners are strictly inside the outer planes
unfoldable pub hollow_in : Precision → ℕ → Cell → Cell → Cell → Outcome Hollow
hollow_in t room outer moved built = then (heard (against true t outer moved) built) (hollow_of t room outer)

-- the outcome of the solid given, and of a cell that is indexed and checked, are arguments
unfoldable pub hollow : Precision → ℕ → Float → Outcome Cell → (Cell → Outcome Cell) → Outcome Hollow
hollow t room w solid built =
    unless (not (thick t w)) 28 (
    then solid (λ outer.
    then (offset_cell t (neg w) outer) (λ moved.
    then (built moved) (hollow_in t room outer moved))))
