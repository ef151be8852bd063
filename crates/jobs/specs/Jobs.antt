-- What every call begins with. Definitions only.
use Rattle.std.specs.Prelude.{ℕ, ◌≡◌, Bool, not, List, length, Float, Ok, Err}
use Rattle.refusal.specs.Outcome.{Outcome, then, unless}
use Rattle.space.specs.Vector.{fair_precision}
use Rattle.space.specs.Shapes.{Cell}
use Rattle.job.specs.declared.Layout.{Layout}
use Rattle.job.specs.declared.CellLayout.{CellLayout}
use Rattle.job.specs.Read.{layout_of, cell_layout, solid_at}
use Rattle.solid_check.specs.Check.{check_given}
use Rattle.intake.specs.Intake.{Stands}
use Rattle.jobs.specs.declared.Pair.{Pair}

-- "12 for an answer room below the work room, 2 for the tolerances"; `lends` says whether enough is lent
unfoldable pub open_with : Bool → Layout → Outcome Layout
open_with lends y = unless (not lends) 12 (unless (not (fair_precision y.precision)) 2 (Ok y))

-- "1 (a job is read whole first)"
unfoldable pub open_job : Bool → List ℕ → Outcome Layout
open_job lends l = then (layout_of l) (open_with lends)

unfoldable pub open_cell_with : Bool → CellLayout → Outcome CellLayout
open_cell_with lends y = unless (not lends) 12 (unless (not (fair_precision y.precision)) 2 (Ok y))

unfoldable pub open_cell : Bool → List ℕ → Outcome CellLayout
open_cell lends l = then (cell_layout l) (open_cell_with lends)

-- "the first solid, the second": two checked cells
pub record Both : Type 0 where
  pub first : Cell
  pub second : Cell

abbrev pub with_second : List ℕ → Layout → Cell → Outcome Both
with_second l y a = then (check_given y.precision (solid_at l y.second)) (λ b. Ok (record { first = a; second = b }))

unfoldable pub both_of : List ℕ → Layout → Outcome Both
both_of l y = then (check_given y.precision (solid_at l y.first)) (with_second l y)

-- what is handed back: how many faces each cell has
unfoldable pub pair_of : Outcome Both → Outcome Pair
pair_of (Ok p) = Ok (record { first = length p.first; second = length p.second })
pair_of (Err r) = Err r

-- the outcome, and its cells in their rooms
pub record TookBoth (o : Outcome Both) (r : Outcome Pair) (a : List Float) (held : List ℕ) (b : List Float) (counts : List ℕ) : Type 0 where
  pub is : r ≡ pair_of o
  pub first : (p : Both) → o ≡ Ok p → Stands p.first (length p.first) a held
  pub second : (p : Both) → o ≡ Ok p → Stands p.second (length p.second) b counts
