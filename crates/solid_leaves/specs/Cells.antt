-- The number for a cell's bytes. Definitions only.
use Rattle.std.specs.Prelude.{ℕ, ◌/◌, Bool, ◌&&◌, cond, List, leb}
use Rattle.refusal.specs.Outcome.{Outcome, then, number_of}
use Rattle.space.specs.Shapes.{Cell}
use Rattle.job.specs.Read.{read_cell}
use Rattle.solid_check.specs.Check.{check}

-- the bytes are read, and the solid that they mean is checked
unfoldable pub check_bytes : Bool → List ℕ → Outcome Cell
check_bytes given l = then (read_cell l) (λ j. check given j.precision j.solid)

-- work memory of these lengths suffices for any cell of 32,768 bytes
abbrev pub roomy : ℕ → ℕ → ℕ → ℕ → ℕ → ℕ → ℕ → ℕ → ℕ → ℕ → Bool
roomy points counts places ends head next seen work nodes cuts =
    (((((((leb 3930 points && leb 32768 counts) && leb 10923 places) && leb places (ends / 2)) && leb places (next / 2)) && leb places nodes) && leb 32768 head) && leb 32768 seen)
    && ((leb 32768 work && leb 32768 nodes) && leb 32769 cuts)

-- 12 where the work memory is too small
unfoldable pub cell_number : Bool → Bool → List ℕ → ℕ
cell_number room given l = cond room (number_of (check_bytes given l)) 12
