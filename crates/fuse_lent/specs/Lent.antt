-- What is lent to a call that fuses: 64 bytes of the answer for each corner of the room, and what each work slice needs. Definitions only.
use Rattle.std.specs.Prelude.{ℕ, ◌+◌, ◌*◌, ◌/◌, ◌≤◌, ◌<◌, Bool, ◌&&◌, leb, ltb}

-- the lengths suffice for a room of so many corners; one of more than 2^32 never is served
pub record Lent (room answer rest spare dst held slots counts sizes seats lengths owners cells cuts runs keys begins ord ends marks out many shells : ℕ) : Type 0 where
  pub low : room ≤ 4294967296
  pub answer_fits : 64 * room ≤ answer
  pub rest_fits : 3 * room + 1984 ≤ rest
  pub spare_fits : 11 * room + 1664 ≤ spare
  pub dst_fits : 11 * room + 1664 ≤ dst
  pub held_fits : room + 128 ≤ held
  pub slots_fit : room + 128 ≤ slots
  pub counts_fit : room + 128 ≤ counts
  pub sizes_fit : room < sizes
  pub seats_fit : room < seats
  pub lengths_fit : room ≤ lengths
  pub owners_fit : room ≤ owners
  pub cells_fit : room ≤ cells
  pub cuts_fit : room < cuts
  pub runs_fit : 3 * room ≤ runs
  pub keys_fit : 2 * room ≤ keys
  pub begins_fit : room < begins
  pub ord_fits : room ≤ ord
  pub ends_fit : room ≤ ends
  pub marks_fit : room < marks
  pub out_fits : room ≤ out
  pub many_fit : room ≤ many
  pub shells_fit : room ≤ shells

-- its test
abbrev pub lengthy : ℕ → ℕ → ℕ → ℕ → ℕ → ℕ → ℕ → ℕ → ℕ → ℕ → ℕ → ℕ → ℕ → ℕ → ℕ → ℕ → ℕ → ℕ → ℕ → ℕ → ℕ → ℕ → ℕ → Bool
lengthy room answer rest spare dst held slots counts sizes seats lengths owners cells cuts runs keys begins ord ends marks out many shells =
    leb room (answer / 64)
    && ((((leb (3 * room + 1984) rest && leb (11 * room + 1664) spare) && leb (11 * room + 1664) dst) && (((leb (room + 128) held && leb (room + 128) slots) && leb (room + 128) counts) && (ltb room sizes && ltb room seats)))
    && (((leb room lengths && leb room owners) && (leb room cells && ltb room cuts)) && (((leb (3 * room) runs && leb (2 * room) keys) && (ltb room begins && leb room ord)) && ((leb room ends && ltb room marks) && ((leb room out && leb room many) && leb room shells)))))

unfoldable pub lends : ℕ → ℕ → ℕ → ℕ → ℕ → ℕ → ℕ → ℕ → ℕ → ℕ → ℕ → ℕ → ℕ → ℕ → ℕ → ℕ → ℕ → ℕ → ℕ → ℕ → ℕ → ℕ → ℕ → Bool
lends room answer rest spare dst held slots counts sizes seats lengths owners cells cuts runs keys begins ord ends marks out many shells = leb room 4294967296 && lengthy room answer rest spare dst held slots counts sizes seats lengths owners cells cuts runs keys begins ord ends marks out many shells
