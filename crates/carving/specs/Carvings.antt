-- The remainder of a cell and the pieces outside, plane by plane, with the room (12). Definitions only.
use Rattle.std.specs.Prelude.{ℕ, List, Ok}
use Rattle.refusal.specs.Outcome.{Outcome, then}
use Rattle.space.specs.declared.Plane.{Plane}
use Rattle.space.specs.declared.Precision.{Precision}
use Rattle.space.specs.Shapes.{Face, Cell, Part, nothing, part}
use Rattle.side.specs.Sides.{opposite_of}
use Rattle.clip.specs.Cuts.{clip}
use Rattle.stack.specs.Stacks.{add_cut}

-- what is left of the first solid, and the pieces outside so far
pub record Carving : Type 0 where
  pub rest : Part
  pub out : List Cell

abbrev pub carving : Part → List Cell → Outcome Carving
carving rest out = Ok (record { rest = rest; out = out })

-- 01: "In `difference` the outside piece is cut before the remainder"; o is the opposite of the plane p
unfoldable pub carve_on : Precision → ℕ → Plane → Plane → Cell → List Cell → Outcome Carving
carve_on t room o p c out =
    then (add_cut t room o c out) (λ out'.
    then (clip t room p c) (λ r. carving r out'))

unfoldable pub carve_cell : Precision → ℕ → List Cell → Plane → Cell → Outcome Carving
carve_cell t room out p c = then (opposite_of t p) (λ o. carve_on t room o p c out)

unfoldable pub carve_part : Precision → ℕ → List Cell → Part → Plane → Outcome Carving
carve_part t room out nothing p = carving nothing out
carve_part t room out (part c) p = carve_cell t room out p c

unfoldable pub carve : Precision → ℕ → Carving → Face → Outcome Carving
carve t room s f = carve_part t room s.out s.rest f.plane

unfoldable pub clip_part : Precision → ℕ → Plane → Part → Outcome Part
clip_part t room p nothing = Ok nothing
clip_part t room p (part c) = clip t room p c

unfoldable pub clip_face : Precision → ℕ → Part → Face → Outcome Part
clip_face t room s f = clip_part t room f.plane s
