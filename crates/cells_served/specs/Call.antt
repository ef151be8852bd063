-- The cell Boolean as a call: from two checked cells to the bytes of the answer. Definitions only.
use Rattle.std.specs.Prelude.{ℕ, List}
use Rattle.refusal.specs.Outcome.{Outcome, then}
use Rattle.space.specs.declared.Precision.{Precision}
use Rattle.space.specs.Shapes.{Cell}
use Rattle.job.specs.declared.Operation.{Operation}
use Rattle.cells.specs.Cells.{cells}
use Rattle.finish.specs.Finish.{finish}
use Rattle.cell_answer.specs.Solids.{solids_answer}

-- the whole list of cells stands first; then cell after cell is indexed and checked; then all of them are written
unfoldable pub cells_call : Operation → Precision → ℕ → Cell → Cell → Outcome (List ℕ)
cells_call op t room a b = then (cells op t room a b) (λ cs. then (finish t cs) solids_answer)
