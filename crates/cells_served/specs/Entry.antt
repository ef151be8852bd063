-- The cell Boolean of a job's bytes, and what must be lent for it. Definitions only.
use Rattle.std.specs.Prelude.{ℕ, ◌+◌, ◌*◌, ◌/◌, ◌≤◌, ◌<◌, Bool, ◌&&◌, List, leb, ltb}
use Rattle.refusal.specs.Outcome.{Outcome, then}
use Rattle.space.specs.Shapes.{Cell}
use Rattle.job.specs.declared.Layout.{Layout}
use Rattle.cells.specs.Cells.{cells}
use Rattle.jobs.specs.Jobs.{Both, open_job, both_of}
use Rattle.cells_served.specs.Call.{cells_call}

-- the cells of the job's operation
abbrev pub cut_both : ℕ → Layout → Both → Outcome (List Cell)
cut_both room y p = cells y.operation y.precision room p.first p.second

-- "the first solid, the second, then 000's own order of work"
abbrev pub cells_both : ℕ → Layout → Both → Outcome (List ℕ)
cells_both room y p = cells_call y.operation y.precision room p.first p.second

unfoldable pub cells_laid : List ℕ → ℕ → Layout → Outcome (List ℕ)
cells_laid l room y = then (both_of l y) (cells_both room y)

-- "1 (a job is read whole first), 12 for an answer room below the work room, 2 for the tolerances, the first solid, the second, then 000's own order of work"
unfoldable pub cells_entry : Bool → ℕ → List ℕ → Outcome (List ℕ)
cells_entry enough room l = then (open_job enough l) (cells_laid l room)

-- ---- what is lent

-- the tests of the lengths, for a room of so many corners: 64 bytes of the answer a corner, and what each work slice needs
abbrev pub lengthy : ℕ → ℕ → ℕ → ℕ → ℕ → ℕ → ℕ → ℕ → ℕ → ℕ → ℕ → ℕ → ℕ → ℕ → ℕ → ℕ → Bool
lengthy room answer rest spare dst held slots counts sizes order chain head seen work nodes cuts =
    leb room (answer / 64)
    && ((((leb (3 * room + 1984) rest && leb (3 * room + 1664) spare) && leb (11 * room + 1664) dst) && ((leb (room + 128) held && leb (room + 128) slots) && (leb (room + 128) counts && ltb room sizes)))
    && ((leb (2 * room + 1024) order && leb (2 * room + 2048) chain) && ((leb room head && leb room seen) && ((leb room work && leb room nodes) && ltb room cuts))))

-- enough is lent; a room of more than 2^32 corners never is
unfoldable pub lends : ℕ → ℕ → ℕ → ℕ → ℕ → ℕ → ℕ → ℕ → ℕ → ℕ → ℕ → ℕ → ℕ → ℕ → ℕ → ℕ → Bool
lends room answer rest spare dst held slots counts sizes order chain head seen work nodes cuts = leb room 4294967296 && lengthy room answer rest spare dst held slots counts sizes order chain head seen work nodes cuts

-- what is lent suffices for a room of so many corners: lengths of the answer and of the work slices
pub record Lent (room answer rest spare dst held slots counts sizes order chain head seen work nodes cuts : ℕ) : Type 0 where
  pub answer_fits : 64 * room ≤ answer
  pub rest_fits : 3 * room + 1984 ≤ rest
  pub spare_fits : 3 * room + 1664 ≤ spare
  pub dst_fits : 11 * room + 1664 ≤ dst
  pub held_fits : room + 128 ≤ held
  pub slots_fit : room + 128 ≤ slots
  pub counts_fit : room + 128 ≤ counts
  pub sizes_fit : room < sizes
  pub order_fits : 2 * room + 1024 ≤ order
  pub chain_fits : 2 * room + 2048 ≤ chain
  pub head_fits : room ≤ head
  pub seen_fits : room ≤ seen
  pub work_fits : room ≤ work
  pub nodes_fit : room ≤ nodes
  pub cuts_fit : room < cuts
