-- Difference, intersection and union as cells, with the room (12). Definitions only.
use Rattle.std.specs.Prelude.{ℕ, List, [], Ok}
use Rattle.refusal.specs.Outcome.{Outcome, then, walk}
use Rattle.space.specs.declared.Precision.{Precision}
use Rattle.space.specs.Shapes.{Cell, part}
use Rattle.stack.specs.Stacks.{add_cell, add_part}
pub use Rattle.carving.specs.Carvings.{Carving, carving}
unfoldable pub use Rattle.carving.specs.Carvings.{carve_on, carve_cell, carve_part, carve, clip_part, clip_face}
use Rattle.job.specs.declared.Operation.{Operation}
use Rattle.job.specs.declared.Operation.TheVariants.{Intersection, Difference, Union}

unfoldable pub minus : Precision → ℕ → Cell → Cell → Outcome (List Cell)
minus t room a b = then (walk (carve t room) (record { rest = part a; out = [] }) b) (λ s. Ok s.out)

unfoldable pub common : Precision → ℕ → Cell → Cell → Outcome (List Cell)
common t room a b = then (walk (clip_face t room) (part a) b) (add_part room [])

-- 01: "Union adds the second solid last"
unfoldable pub both : Precision → ℕ → Cell → Cell → Outcome (List Cell)
both t room a b = then (minus t room a b) (λ cs. add_cell room cs b)

unfoldable pub cells : Operation → Precision → ℕ → Cell → Cell → Outcome (List Cell)
cells Intersection t room a b = common t room a b
cells Difference t room a b = minus t room a b
cells Union t room a b = both t room a b
