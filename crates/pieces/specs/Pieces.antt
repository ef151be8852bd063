-- The pieces of a Boolean operation, before they are fused. Definitions only.
use Rattle.std.specs.Prelude.{List, ◌++◌, ℕ}
use Rattle.refusal.specs.Outcome.{Outcome, then}
use Rattle.space.specs.declared.Precision.{Precision}
use Rattle.space.specs.Shapes.{Cell}
use Rattle.job.specs.declared.Operation.{Operation}
use Rattle.cells.specs.Cells.{cells}
use Rattle.splits.specs.Planes.{split_all, planes_of}

-- 000: `a.faces.iter().chain(&b.faces).map(|f| f.plane)`: the cells of the operation, split by the planes of both solids
unfoldable pub pieces_of : Operation → Precision → ℕ → Cell → Cell → Outcome (List Cell)
pieces_of op t room a b = then (cells op t room a b) (split_all t room (planes_of a ++ planes_of b))
