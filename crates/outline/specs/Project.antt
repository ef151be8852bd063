-- The corners of a facet in the coordinates of its plane: 34. Definitions only.
use Rattle.std.specs.Prelude.{◌-◌, ◌/◌, List, ◌++◌, length, take, replicate, Float, Ok, Err, Some, None, Option}
use Rattle.std.specs.Float.{nan, binary64}
use Rattle.std.specs.Float.Ieee.{of_bits}
use Rattle.refusal.specs.Outcome.{Outcome, refuse, refusal_of}
use Rattle.interval.specs.declared.Interval.{Interval}
use Rattle.interval.specs.declared.Sign.{Sign}
use Rattle.interval.specs.declared.Sign.TheVariants.{Positive, Negative, Zero, Unknown}
use Rattle.interval.specs.Ends.{point_i, mul_i, sign_of, inverse_of}
use Rattle.interval.specs.Box.{dot0, difference_i, residual_i, cross_i}
use Rattle.space.specs.declared.Point3.{Point3}
use Rattle.space.specs.declared.Frame.{Frame}
use Rattle.space.specs.declared.Plane.{Plane}
use Rattle.space.specs.Vector.{box_of}
use Rattle.polygon.specs.Memory.{points_at}
use Rattle.turns.specs.declared.Projected.{Projected}
use Rattle.outline.specs.declared.Outline.{Outline}

-- ---- handedness

-- 34: "handedness … uncertified"
unfoldable pub handed : Sign → Outcome Unit
handed Positive = Ok tt
handed Negative = Err (refusal_of 34)
handed Zero = Err (refusal_of 34)
handed Unknown = Err (refusal_of 34)

-- (x cross y) dot z
unfoldable pub basis_of : Plane → Outcome Unit
basis_of w = handed (sign_of (dot0 (cross_i (box_of w.frame.x) (box_of w.frame.y)) (box_of w.frame.z)))

-- ---- one corner

-- what the answer says
-- the coordinates along the frame's x and y
unfoldable pub seen : Frame → List Interval → Projected
seen f s = record { x = dot0 s (box_of f.x); y = dot0 s (box_of f.y) }

-- delta less its part along the normal, whose reciprocal square is r
unfoldable pub shadow_of : Frame → List Interval → List Interval → Interval → Projected
shadow_of f d n r = seen f (residual_i d n (mul_i (dot0 d n) r))

-- 34: "reciprocal uncertified"
unfoldable pub shadow_by : Frame → List Interval → List Interval → Option Interval → Outcome Projected
shadow_by f d n (Some r) = Ok (shadow_of f d n r)
shadow_by f d n None = refuse 34

unfoldable pub projected_of : Plane → Point3 → Outcome Projected
projected_of w q =
    shadow_by w.frame (difference_i (box_of q) (box_of w.frame.origin)) (box_of w.frame.z) (inverse_of (dot0 (box_of w.frame.z) (box_of w.frame.z)))

-- ---- the corners as they lie in memory, three floats each

-- all points of a slice
abbrev pub facet_of : List Float → List Point3
facet_of s = points_at s 0 (length s / 3)

-- ---- how a list of at most 128 projected points lies in an Outline

abbrev pub middle : Projected
middle = record { x = point_i (of_bits binary64 0); y = point_i (of_bits binary64 0) }

-- what the logic reads past the end of an array of projected points
abbrev pub astray : Projected
astray = record { x = point_i nan; y = point_i nan }

abbrev pub points_of : Outline → List Projected
points_of o = take o.n o.at

abbrev pub padded : List Projected → List Projected
padded l = l ++ replicate (128 - length l) middle

abbrev pub outline : List Projected → Outline
outline l = record { at = padded l; n = length l }

-- the outline of the points, or the refusal
unfoldable pub outlined : Outcome (List Projected) → Outcome Outline
outlined (Ok l) = Ok (outline l)
outlined (Err r) = Err r
