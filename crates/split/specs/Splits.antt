-- `split_cells`: one cell by one plane, with the room (12) and the budget of cells (11). Definitions only.
use Rattle.std.specs.Prelude.{Bool, true, false, List, ℕ, length, ltb, Ok, Err}
use Rattle.refusal.specs.Outcome.{Outcome, refusal_of, then, unless}
use Rattle.space.specs.declared.Plane.{Plane}
use Rattle.space.specs.declared.Precision.{Precision}
use Rattle.space.specs.Shapes.{Cell}
use Rattle.stack.specs.declared.Stack.{Stack}
use Rattle.stack.specs.Stacks.{add_cut, stack_of}

-- 11: "more than 512 cells after both parts of one cell"
unfoldable pub budget : List Cell → Outcome (List Cell)
budget cs = unless (ltb 512 (length cs)) 11 (Ok cs)

-- both parts of a cell: what lies below the plane p, then what lies below its opposite o
unfoldable pub split_cell : Precision → ℕ → Plane → Plane → Cell → List Cell → Outcome (List Cell)
split_cell t room p o c next = then (add_cut t room p c next) (λ a. then (add_cut t room o c a) budget)

-- the same of a stack, by its number of cells
unfoldable pub capped : Bool → Stack → Stack
capped true s = stack_of (Err (refusal_of 11))
capped false s = s
