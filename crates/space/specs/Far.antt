-- How far two points must differ in one coordinate so that they are certainly apart. Definitions only.
-- Nothing is estimated: `is_reach` runs the definition of near on the least squares that such a difference can give.
use Rattle.std.specs.Prelude.{Bool, false, not, ◌&&◌, ◌||◌, cond, Float}
use Rattle.std.specs.Float.{nan, inf, binary64}
use Rattle.std.specs.Float.Ieee.{is_nan, lt, le, neg, add, mul}
use Rattle.float.specs.Float.{next_down, greater}
use Rattle.interval.specs.declared.Interval.{Interval}
use Rattle.interval.specs.Ends.{zero, point_i, add_i, sub_i, sqr_i}
use Rattle.space.specs.declared.Precision.{Precision}

-- x without its sign
abbrev pub size_of : Float → Float
size_of x = greater x (neg x)

-- what the square of a difference of size g or more is at least
abbrev pub floor_of : Float → Float
floor_of g = next_down (mul binary64 (next_down g) (next_down g))

abbrev pub from_on : Float → Interval
from_on s = record { lo = s; hi = inf false }

-- three squares of at least x, y and z come to more than the square of local
unfoldable pub is_more : Precision → Float → Float → Float → Bool
is_more p x y z = lt zero (sub_i (add_i (add_i (from_on x) (from_on y)) (from_on z)) (sqr_i (point_i p.local))).lo

-- a difference of size g in any one coordinate is enough
unfoldable pub is_reach : Precision → Float → Bool
is_reach p g = lt zero (next_down g) && (is_more p (floor_of g) zero zero && (is_more p zero (floor_of g) zero && is_more p zero zero (floor_of g)))

-- twice local, where that is enough; else a NaN, which nothing reaches
unfoldable pub reach_of : Precision → Float
reach_of p = cond (is_reach p (add binary64 p.local p.local)) (add binary64 p.local p.local) nan

-- one of the differences x, y and z has that size, and none is a NaN
unfoldable pub is_far : Float → Float → Float → Float → Bool
is_far g x y z = cond (le g (size_of x)) (not (is_nan (add binary64 y z))) ((le g (size_of y) || le g (size_of z)) && not (is_nan (add binary64 (add binary64 x y) z)))
