-- The corners of a cell against the planes of another: 7, and 27 for an offset or 29 for a hollow. Definitions only.
use Rattle.std.specs.Prelude.{Bool, true, false, List, ℕ, ◌+◌, ◌≤◌, length, Float, Ok, Err}
use Rattle.refusal.specs.Outcome.{Outcome, refusal_of}
use Rattle.space.specs.declared.Point3.{Point3}
use Rattle.space.specs.declared.Precision.{Precision}
use Rattle.space.specs.Shapes.{Cell}
use Rattle.side.specs.declared.Side.{Side}
use Rattle.side.specs.declared.Side.TheVariants.{Positive, Negative, Zero}
use Rattle.side.specs.Sides.{side_of}
use Rattle.room.specs.Rooms.{counts_at, Within}
use Rattle.solids.specs.Apart.{each_in}

-- 27: "plane crossed"
unfoldable pub not_above : Outcome Side → Outcome Unit
not_above (Ok Positive) = Err (refusal_of 27)
not_above (Ok Negative) = Ok tt
not_above (Ok Zero) = Ok tt
not_above (Err r) = Err r

-- 29: "inner not strictly inside"
unfoldable pub well_below : Outcome Side → Outcome Unit
well_below (Ok Positive) = Err (refusal_of 29)
well_below (Ok Negative) = Ok tt
well_below (Ok Zero) = Err (refusal_of 29)
well_below (Err r) = Err r

unfoldable pub judged : Bool → Outcome Side → Outcome Unit
judged true s = well_below s
judged false s = not_above s

-- face by face, corner by corner, bound by bound
unfoldable pub point_in : Bool → Precision → Cell → Point3 → Outcome Unit
point_in strict t bounds q = each_in (λ b. judged strict (side_of t b.plane q)) bounds

unfoldable pub points_in : Bool → Precision → Cell → List Point3 → Outcome Unit
points_in strict t bounds l = each_in (point_in strict t bounds) l

unfoldable pub against : Bool → Precision → Cell → Cell → Outcome Unit
against strict t bounds c = each_in (λ f. points_in strict t bounds f.points) c

-- a cell lies in its two slices
pub record Lies (src : List Float) (from : ℕ) (sizes : List ℕ) (j faces : ℕ) : Type 0 where
  pub listed : j + faces ≤ length sizes
  pub within : Within (counts_at sizes j faces) from (length src)
