-- What the sense of a shell means: a shell called outward has an exactly positive six-fold volume, one called inward a negative one.
use Rattle.std.specs.Prelude.{◌≡◌, ◌^◌, Ok}
use mathlib.Core.List.{List}
use Rattle.interval.specs.declared.Interval.{Interval}
use Rattle.interval.specs.Ends.{zero, point_i}
use Rattle.interval.specs.Box.{difference_i}
use Rattle.interval.proofs.Laws.{Ordered}
use Rattle.space.specs.declared.Point3.{Point3}
use Rattle.space.specs.Vector.{box_of}
use Rattle.bodies.specs.Fusing.{outward, inward}
use Rattle.volume.specs.Volume.{volume_from, first_corner, volume_sign}
use Rattle.tube.specs.Whole.{Whole, nought, Below}
use Rattle.tube.specs.Sure.{Sure}
use Rattle.tube_volume.specs.Sixfold.{sixfold}

-- ---- THE SENSE of a shell, given as the corners of its facets: what it says of the exact six-fold volume (specs/Sixfold).
-- Of a shell whose sense is refused (21) nothing is said. Given is that all coordinates are values of the format, as every
-- f64 of a program is.
pub record Signed (l : List (List Point3)) : Type 0 where
  pub out : volume_sign l ≡ Ok outward → Below nought (sixfold l)
  pub inn : volume_sign l ≡ Ok inward → Below (sixfold l) nought

-- the six-fold volume in intervals: the interval whose sign decides
abbrev pub volume_i : List (List Point3) → Interval
volume_i l = volume_from (box_of (first_corner l)) (point_i zero) l

-- ---- an interval with its ends in order that holds d in units of 2 ^ -3222 once they are finite
pub record Total (v : Interval) (d : Whole) : Type 0 where
  pub ordered : Ordered v
  pub sure : Sure v d (2 ^ 2148)

-- ---- one triangle, seen from o: six times the volume of its tetrahedron, added in three parts
-- q - o in intervals
abbrev pub from : Point3 → Point3 → List Interval
from o q = difference_i (box_of q) (box_of o)
