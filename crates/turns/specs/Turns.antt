-- The turn at three points of a plane: 33; a coordinate between two others. Definitions only.
use Rattle.std.specs.Prelude.{Bool, true, false, ◌&&◌, cond, Float, Ok, Err}
use Rattle.std.specs.Float.{binary64}
use Rattle.std.specs.Float.Ieee.{add, sub, mul, neg, le}
use Rattle.float.specs.Float.{lesser, greater}
use Rattle.refusal.specs.Outcome.{Outcome, refusal_of}
use Rattle.interval.specs.declared.Interval.{Interval}
use Rattle.interval.specs.declared.Sign.{Sign}
use Rattle.interval.specs.declared.Sign.TheVariants as S
use Rattle.interval.specs.Ends.{sub_i, mul_i, sign_of}
use Rattle.space.specs.declared.Precision.{Precision}
use Rattle.turns.specs.declared.Projected.{Projected}
use Rattle.turns.specs.declared.Turn.{Turn}
use Rattle.turns.specs.declared.Turn.TheVariants.{Positive, Negative, Zero}

-- 01, "Mesh orientation: the same product in intervals": (b-a) cross (c-a)
unfoldable pub determinant_of : Projected → Projected → Projected → Interval
determinant_of a b c = sub_i (mul_i (sub_i b.x a.x) (sub_i c.y a.y)) (mul_i (sub_i b.y a.y) (sub_i c.x a.x))

-- the interval lies inside plus or minus m
abbrev pub inside : Interval → Float → Bool
inside d m = le (neg m) d.lo && le d.hi m

-- 33: "mesh orientation unresolved"
abbrev pub zero_where : Bool → Outcome Turn
zero_where z = cond z (Ok Zero) (Err (refusal_of 33))

-- "a certified sign wins, else Zero if it lies inside plus or minus local·local (rounded), else refused"
unfoldable pub turned : Sign → Bool → Outcome Turn
turned S.Positive z = Ok Positive
turned S.Negative z = Ok Negative
turned S.Zero z = Ok Zero
turned S.Unknown z = zero_where z

unfoldable pub orientation_of : Precision → Projected → Projected → Projected → Outcome Turn
orientation_of p a b c =
    turned (sign_of (determinant_of a b c)) (inside (determinant_of a b c) (mul binary64 p.local p.local))

-- 01, `contains_range`: "z.high >= lower low - local and z.low <= upper high + local"
unfoldable pub in_range : Precision → Interval → Interval → Interval → Bool
in_range p a b z =
    le (sub binary64 (lesser a.lo b.lo) p.local) z.hi && le z.lo (add binary64 (greater a.hi b.hi) p.local)

abbrev pub is_positive : Outcome Turn → Bool
is_positive (Ok Positive) = true
is_positive (Ok Negative) = false
is_positive (Ok Zero) = false
is_positive (Err r) = false

abbrev pub is_negative : Outcome Turn → Bool
is_negative (Ok Positive) = false
is_negative (Ok Negative) = true
is_negative (Ok Zero) = false
is_negative (Err r) = false

abbrev pub is_zero : Outcome Turn → Bool
is_zero (Ok Positive) = false
is_zero (Ok Negative) = false
is_zero (Ok Zero) = true
is_zero (Err r) = false
