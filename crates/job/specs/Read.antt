-- Where the parts of a job stand, and the job that is read so. Definitions only.
use Rattle.std.specs.Prelude.{ℕ, ◌+◌, ◌*◌, Bool, not, cond, ◌&&◌, List, map, length, drop, get_or, eqb, leb, Ok}
use Rattle.std.specs.Float.{binary64}
use Rattle.std.specs.Float.Ieee.{of_bits}
use Rattle.refusal.specs.Outcome.{Outcome, refuse, then, unless}
use Rattle.space.specs.declared.Point3.{Point3}
use Rattle.space.specs.declared.Precision.{Precision}
use Rattle.space.specs.declared.Plane.{Plane}
use Rattle.space.specs.Shapes.{Solid}
use Rattle.words.specs.Little.{float_at}
use Rattle.job.specs.declared.Operation.{Operation}
use Rattle.job.specs.declared.Operation.TheVariants.{Intersection, Difference, Union}
use Rattle.job.specs.declared.Span.{Span}
use Rattle.job.specs.declared.Layout.{Layout}
use Rattle.job.specs.declared.CellLayout.{CellLayout}
use Rattle.job.specs.declared.FacetLayout.{FacetLayout}
use Rattle.job.specs.Records.{standing, run_of, span_of, bodies, face_bodies}
use Rattle.job.specs.Bytes.{SolidBodies, point_of, solid_of, Job, Single, Facet}

-- what the answers say
-- "job over 32,768 bytes", and "one 1"
unfoldable pub headed : List ℕ → Bool
headed l = leb (length l) 32768 && standing 1 16 l

unfoldable pub precision_at : List ℕ → ℕ → Precision
precision_at l at = record { linear = float_at l at; local = float_at l (at + 8) }

-- "operation (1: intersection 1, difference 2, union 3)"; "operation of unknown kind"
unfoldable pub operation_of : ℕ → Outcome Operation
operation_of b = cond (eqb b 1) (Ok Intersection) (cond (eqb b 2) (Ok Difference) (cond (eqb b 3) (Ok Union) (refuse 1)))

-- "one 6; end"
unfoldable pub closing : List ℕ → ℕ → Bool
closing l at = standing 6 1 (drop at l) && eqb (length l) (at + 2)

unfoldable pub operation_at : List ℕ → ℕ → Outcome Operation
operation_at l at = unless (not (closing l at)) 1 (operation_of (get_or l (at + 1) 0))

unfoldable pub layout_as : List ℕ → Span → Span → Operation → Layout
layout_as l a b o = record { precision = precision_at l 1; first = a; second = b; operation = o }

abbrev pub layout_with : List ℕ → Span → Span → Operation → Outcome Layout
layout_with l a b o = Ok (layout_as l a b o)

unfoldable pub layout_on : List ℕ → Span → Span → Outcome Layout
layout_on l a b = then (operation_at l b.end) (layout_with l a b)

unfoldable pub layout_after : List ℕ → Span → Outcome Layout
layout_after l a = then (span_of l a.end) (layout_on l a)

-- the places of a job's parts
unfoldable pub layout_of : List ℕ → Outcome Layout
layout_of l = unless (not (headed l)) 1 (then (span_of l 17) (layout_after l))

-- ---- one solid alone: "records 1, points, faces, 5"

unfoldable pub cell_end : List ℕ → Span → Outcome CellLayout
cell_end l a = unless (not (eqb (length l) a.end)) 1 (Ok (record { precision = precision_at l 1; solid = a }))

unfoldable pub cell_layout : List ℕ → Outcome CellLayout
cell_layout l = unless (not (headed l)) 1 (then (span_of l 17) (cell_end l))

-- ---- one facet: tolerances, its plane (kind 9, 12 f64), its corners as points

unfoldable pub spot_at : List ℕ → ℕ → Point3
spot_at l at = record { x = float_at l at; y = float_at l (at + 8); z = float_at l (at + 16) }

unfoldable pub plane_at : List ℕ → ℕ → Plane
plane_at l at = record { frame = record { origin = spot_at l at; x = spot_at l (at + 24); y = spot_at l (at + 48); z = spot_at l (at + 72) }; mark = of_bits binary64 0 }

unfoldable pub facet_end : List ℕ → ℕ → Outcome FacetLayout
facet_end l n = unless (not (eqb (length l) (114 + 25 * n))) 1 (Ok (record { precision = precision_at l 1; plane = plane_at l 18; start = 114; points = n }))

unfoldable pub facet_headed : List ℕ → Bool
facet_headed l = headed l && standing 9 96 (drop 17 l)

unfoldable pub facet_layout : List ℕ → Outcome FacetLayout
facet_layout l = unless (not (facet_headed l)) 1 (facet_end l (run_of 2 24 (drop 114 l)))

-- ---- what stands at the places

-- the point whose record is the front of a list, and point i of those that begin at a place
unfoldable pub point_from : List ℕ → Point3
point_from s = record { x = float_at s 1; y = float_at s 9; z = float_at s 17 }

unfoldable pub point_at : List ℕ → ℕ → ℕ → Point3
point_at l at i = point_from (drop (at + 25 * i) l)

unfoldable pub bodies_at : List ℕ → Span → SolidBodies
bodies_at l a = record { points = bodies 24 a.points (drop a.start l); faces = face_bodies a.faces (drop a.middle l) }

unfoldable pub solid_at : List ℕ → Span → Solid
solid_at l a = solid_of (bodies_at l a)

unfoldable pub job_at : List ℕ → Layout → Job
job_at l y = record { precision = y.precision; first = solid_at l y.first; second = solid_at l y.second; operation = y.operation }

-- the job that bytes are, or 1
unfoldable pub read_job : List ℕ → Outcome Job
read_job l = then (layout_of l) (λ y. Ok (job_at l y))

unfoldable pub cell_at : List ℕ → CellLayout → Single
cell_at l y = record { precision = y.precision; solid = solid_at l y.solid }

unfoldable pub read_cell : List ℕ → Outcome Single
read_cell l = then (cell_layout l) (λ y. Ok (cell_at l y))

unfoldable pub facet_at : List ℕ → FacetLayout → Facet
facet_at l y = record { precision = y.precision; plane = y.plane; points = map point_of (bodies 24 y.points (drop y.start l)) }

unfoldable pub read_facet : List ℕ → Outcome Facet
read_facet l = then (facet_layout l) (λ y. Ok (facet_at l y))
