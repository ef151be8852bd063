-- `clip`: 7; then 7, 8, 9, 12, 6, 12 face by face; then 6, 10, 12 of the cap. Definitions only.
use Rattle.std.specs.Prelude.{ℕ, Bool, true, false, List, [], length, ltb, Ok}
use Rattle.refusal.specs.Outcome.{Outcome, then, walk}
use Rattle.space.specs.declared.Point3.{Point3}
use Rattle.space.specs.declared.Plane.{Plane}
use Rattle.space.specs.declared.Precision.{Precision}
use Rattle.space.specs.Shapes.{Face, Cell, Part, nothing, part}
use Rattle.polygon.specs.Unique.{unique}
use Rattle.hull.specs.Hull.{cap_of}
use Rattle.edge.specs.Meets.{Signs, unseen}
use Rattle.ring.specs.Rings.{sign_one, Ring, cut_ring}
use Rattle.cell.specs.Cells.{add_face, keep_face, left_cell}

-- ---- "all corners are classified first": 7

unfoldable pub sign_face : Precision → Plane → Signs → Face → Outcome Signs
sign_face t w s f = walk (sign_one t w) s f.points

unfoldable pub signs_of : Precision → Plane → Cell → Outcome Signs
signs_of t w c = walk (sign_face t w) unseen c

-- ---- a cell, face by face

-- the cell so far, and the cap
pub record Cutting : Type 0 where
  pub cell : Cell
  pub cap : List Point3

unfoldable pub joined : Precision → ℕ → Cell → Plane → Ring → Outcome Cutting
joined t room c w r =
    then (unique t r.face) (λ l.
    then (keep_face (ltb (length l) 3) room c (record { plane = w; points = l })) (λ c'.
    Ok (record { cell = c'; cap = r.cap })))

unfoldable pub cut_face : Precision → ℕ → Plane → Cutting → Face → Outcome Cutting
cut_face t room w s f = then (cut_ring t w s.cap f.points) (joined t room s.cell f.plane)

-- the cap closes the cell: 6, 10, 12
unfoldable pub closed : Precision → ℕ → Plane → Cutting → Outcome Cell
closed t room w s = then (cap_of t w s.cap) (λ l. add_face room s.cell (record { plane = w; points = l }))

unfoldable pub cut_faces : Precision → ℕ → Plane → Cell → Outcome Cutting
cut_faces t room w c = walk (cut_face t room w) (record { cell = []; cap = [] }) c

unfoldable pub cut_cell : Precision → ℕ → Plane → Cell → Outcome Cell
cut_cell t room w c = then (cut_faces t room w c) (closed t room w)

abbrev pub as_part : Cell → Outcome Part
as_part c = Ok (part c)

-- nothing where no corner is Negative, the cell where none is Positive, else the part below the plane
unfoldable pub clip_by : Precision → ℕ → Plane → Cell → Bool → Bool → Outcome Part
clip_by t room w c false positive = Ok nothing
clip_by t room w c true false = then (left_cell room c) as_part
clip_by t room w c true true = then (cut_cell t room w c) as_part

unfoldable pub clip : Precision → ℕ → Plane → Cell → Outcome Part
clip t room w c = then (signs_of t w c) (λ s. clip_by t room w c s.negative s.positive)
