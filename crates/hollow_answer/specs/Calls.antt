-- The call of a hollow solid, from the checked cell to the bytes of its answer. Definitions only.
use Rattle.std.specs.Prelude.{List, ◌++◌, ℕ, ◌+◌, ◌*◌, ◌≤◌, length, Float, Ok}
use Rattle.std.specs.Float.Ieee.{neg}
use Rattle.refusal.specs.Outcome.{Outcome, then}
use Rattle.space.specs.declared.Precision.{Precision}
use Rattle.space.specs.Shapes.{Cell, corners}
use Rattle.room.specs.Rooms.{cell_at, counts_at}
use Rattle.words.specs.Little.{digits}
use Rattle.bounds.specs.Bounds.{Lies}
use Rattle.offset.specs.Offsets.{offset_cell}
use Rattle.hollow.specs.Hollows.{Hollow, hollow_in}
use Rattle.hollow.specs.Stored.{behind}
use Rattle.solid_check.specs.Check.{cell_of}
use Rattle.built.specs.Built.{built}
use Rattle.answer.specs.Answers.{shell_answer}
use Rattle.offset_answer.specs.Calls.{Shop}

-- the built inner solid: its indexed faces with their own frames
unfoldable pub built_cell : Precision → Cell → Outcome Cell
built_cell t c = then (built t c) (cell_of t)

-- "u32 shells; for each shell" its sense and its facets; "the outer shell precedes the inner"
unfoldable pub hollow_answer : Hollow → List ℕ
hollow_answer h = digits 4 2 ++ (shell_answer 1 h.outer ++ shell_answer 0 h.inner)

abbrev pub answer_of : Hollow → Outcome (List ℕ)
answer_of h = Ok (hollow_answer h)

-- from the moved cell and the built one on
unfoldable pub wall_call : Precision → ℕ → Cell → Cell → Cell → Outcome (List ℕ)
wall_call t limit outer moved built = then (hollow_in t limit outer moved built) answer_of

unfoldable pub shell_call : Precision → ℕ → Cell → Cell → Outcome (List ℕ)
shell_call t limit outer moved = then (built_cell t moved) (wall_call t limit outer moved)

-- the wall is thick enough already: 28 comes before the solid
unfoldable pub hollow_call : Precision → ℕ → Float → Cell → Outcome (List ℕ)
hollow_call t limit w c = then (offset_cell t (neg w) c) (shell_call t limit c)

-- two cells of n faces each, one behind the other in two slices
abbrev pub inner_at : List Float → List ℕ → ℕ → Cell
inner_at s counts n = cell_at s (behind 0 n (cell_at s 0 (counts_at counts 0 n))) (counts_at counts n n)

pub record Pair (s : List Float) (counts : List ℕ) (n : ℕ) : Type 0 where
  pub outer : Lies s 0 counts 0 n
  pub inner : Lies s (behind 0 n (cell_at s 0 (counts_at counts 0 n))) counts n n

abbrev pub hollow_at : List Float → List ℕ → ℕ → Hollow
hollow_at s counts n = record { outer = cell_at s 0 (counts_at counts 0 n); inner = inner_at s counts n }

-- what an offset works in, with room for a second shell behind the cell, and for the built cell in the slice of moved points
pub record Yard (s : List Float) (counts : List ℕ) (n : ℕ) (by points : List Float) (places : List ℕ) (moved dst : List Float) (sizes ends head next seen work nodes cuts : List ℕ) : Type 0 where
  pub shop : Shop s counts n by points places moved dst sizes ends head next seen work nodes cuts
  pub twice : 26 * n + 6 * corners 0 (cell_at s 0 (counts_at counts 0 n)) ≤ length s
  pub slots : n + n ≤ length counts
  pub floats : 13 * n + 3 * length places ≤ length moved
