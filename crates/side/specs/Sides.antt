-- On which side of a plane a point lies, by intervals: 7. Definitions only.
use Rattle.std.specs.Prelude.{Bool, true, false, ◌&&◌, cond, Float, Ok, Err}
use Rattle.std.specs.Float.Ieee.{le, neg}
use Rattle.refusal.specs.Outcome.{Outcome, then, refusal_of}
use Rattle.interval.specs.declared.Interval.{Interval}
use Rattle.interval.specs.declared.Sign.{Sign}
use Rattle.interval.specs.declared.Sign.TheVariants as S
use Rattle.interval.specs.Ends.{point_i, add_i, sub_i, mul_i, sign_of}
use Rattle.interval.specs.Box.{dot_i, difference_i}
use Rattle.space.specs.declared.Point3.{Point3}
use Rattle.space.specs.declared.Plane.{Plane}
use Rattle.space.specs.declared.Precision.{Precision}
use Rattle.space.specs.Vector.{sub_v, neg_v, dot_v, box_of}
use Rattle.space.specs.Frames.{plane_of, with_mark}
use Rattle.side.specs.declared.Side.{Side}
use Rattle.side.specs.declared.Side.TheVariants.{Positive, Negative, Zero}

-- (p - origin) dot normal
unfoldable pub distance_of : Plane → Point3 → Interval
distance_of w p = dot_i (difference_i (box_of p) (box_of w.frame.origin)) (box_of w.frame.z)

-- its part along one axis
unfoldable pub along_i : Float → Float → Float → Interval
along_i x o z = mul_i (sub_i (point_i x) (point_i o)) (point_i z)

-- the same, rounded at each operation
unfoldable pub height_of : Plane → Point3 → Float
height_of w p = dot_v w.frame.z (sub_v p w.frame.origin)

abbrev pub is_positive : Sign → Bool
is_positive S.Positive = true
is_positive S.Negative = false
is_positive S.Zero = false
is_positive S.Unknown = false

abbrev pub is_negative : Sign → Bool
is_negative S.Positive = false
is_negative S.Negative = true
is_negative S.Zero = false
is_negative S.Unknown = false

-- the whole interval lies inside the tube of the tolerance t
abbrev pub within : Interval → Float → Bool
within d t = le (neg t) d.lo && le d.hi t

-- 7: "side neither certified nor inside the tube"
abbrev pub first_of : Bool → Bool → Bool → Outcome Side
first_of p n z = cond p (Ok Positive) (cond n (Ok Negative) (cond z (Ok Zero) (Err (refusal_of 7))))

unfoldable pub classed : Interval → Float → Outcome Side
classed d t = first_of (is_positive (sign_of (sub_i d (point_i t)))) (is_negative (sign_of (add_i d (point_i t)))) (within d t)

unfoldable pub side_of : Precision → Plane → Point3 → Outcome Side
side_of t w p = classed (distance_of w p) t.local

-- the plane of the same origin, with the normal turned round, the same hint and the same mark
unfoldable pub opposite_of : Precision → Plane → Outcome Plane
opposite_of t w = then (plane_of t w.frame.origin (neg_v w.frame.z) w.frame.x) (with_mark w.mark)
