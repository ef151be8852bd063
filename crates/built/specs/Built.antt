-- The solid of a cell: its points, each once, and its faces by their places, where they pass the check. Definitions only.
use Rattle.std.specs.Prelude.{List, ℕ, ◌*◌, ◌≤◌, ◌<◌, length, Ok}
use Rattle.refusal.specs.Outcome.{Outcome, then}
use Rattle.space.specs.declared.Precision.{Precision}
use Rattle.space.specs.Shapes.{Cell, Solid}
use Rattle.indexed.specs.Indexed.{indexed}
use Rattle.solid_check.specs.Check.{check_built}

-- 01: "Cells of the cell Boolean, and the solid that an offset gives, pass `indexed` and this check, without the counts, and the
-- indexed points and faces are the answer"
unfoldable pub built : Precision → Cell → Outcome Solid
built t c = then (indexed t c) (λ s. then (check_built t s) (λ _. Ok s))

-- the work memory of the check of n faces whose corners have c places in all
pub record Bench (c n : ℕ) (ends head next seen work nodes cuts : List ℕ) : Type 0 where
  pub ends_fit : 2 * c ≤ length ends
  pub next_fits : 2 * c ≤ length next
  pub corners_fit : c ≤ length nodes
  pub head_fits : n ≤ length head
  pub seen_fits : n ≤ length seen
  pub work_fits : n ≤ length work
  pub nodes_fit : n ≤ length nodes
  pub cuts_fit : n < length cuts
