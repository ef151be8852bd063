-- How a corner and an edge meet the plane of a cut: 7, 8, 9. Definitions only.
use Rattle.std.specs.Prelude.{Bool, true, false, ◌||◌, cond, Float, Ok, Err}
use Rattle.std.specs.Float.{binary64}
use Rattle.std.specs.Float.Ieee.{sub, div}
use Rattle.refusal.specs.Outcome.{Outcome, refusal_of}
use Rattle.interval.specs.declared.Interval.{Interval}
use Rattle.interval.specs.declared.Sign.{Sign}
use Rattle.interval.specs.declared.Sign.TheVariants as S
use Rattle.interval.specs.Ends.{sub_i, sign_of, holds_zero}
use Rattle.space.specs.declared.Point3.{Point3}
use Rattle.space.specs.declared.Plane.{Plane}
use Rattle.space.specs.declared.Precision.{Precision}
use Rattle.space.specs.Vector.{sub_v, add_v, scale_v}
use Rattle.side.specs.declared.Side.{Side}
use Rattle.side.specs.declared.Side.TheVariants.{Positive, Negative, Zero}
use Rattle.side.specs.Sides.{distance_of, height_of, side_of}
use Rattle.edge.specs.declared.Meet.{Meet}
use Rattle.edge.specs.declared.Meet.TheVariants as M
use Rattle.edge.specs.declared.Seen.{Seen}

-- ---- which sides the corners of a cell lie on

abbrev pub Signs : Type 0
Signs = Seen

abbrev pub unseen : Signs
unseen = record { negative = false; positive = false }

unfoldable pub noted : Signs → Outcome Side → Outcome Signs
noted s (Ok Positive) = Ok (record { negative = s.negative; positive = true })
noted s (Ok Negative) = Ok (record { negative = true; positive = s.positive })
noted s (Ok Zero) = Ok s
noted s (Err r) = Err r

-- ---- the corner of an edge: kept unless Positive, and Zero ones stand on the cap too

unfoldable pub at_corner : Outcome Side → Outcome Meet
at_corner (Ok Positive) = Ok M.Drop
at_corner (Ok Negative) = Ok M.Keep
at_corner (Ok Zero) = Ok M.Touch
at_corner (Err r) = Err r

-- 7 of a side comes before what else the edge gives
unfoldable pub held_back : Outcome Side → Outcome Meet → Outcome Meet
held_back (Ok Positive) m = m
held_back (Ok Negative) m = m
held_back (Ok Zero) m = m
held_back (Err r) m = Err r

unfoldable pub corner_meet : Outcome Side → Outcome Side → Outcome Meet
corner_meet a b = held_back a (held_back b (at_corner a))

-- ---- the crossing of an edge, where one end is Positive and the other Negative

abbrev pub is_positive : Outcome Side → Bool
is_positive (Ok Positive) = true
is_positive (Ok Negative) = false
is_positive (Ok Zero) = false
is_positive (Err r) = false

abbrev pub is_negative : Outcome Side → Bool
is_negative (Ok Positive) = false
is_negative (Ok Negative) = true
is_negative (Ok Zero) = false
is_negative (Err r) = false

unfoldable pub crosses : Outcome Side → Outcome Side → Bool
crosses (Ok Positive) b = is_negative b
crosses (Ok Negative) b = is_positive b
crosses (Ok Zero) b = false
crosses (Err r) b = false

abbrev pub vague : Sign → Bool
vague S.Positive = false
vague S.Negative = false
vague S.Zero = false
vague S.Unknown = true

-- 8: "cut denominator holds zero". It is never given: the ends' distances are certified on opposite sides of the tube
unfoldable pub no_ratio : Plane → Point3 → Point3 → Bool
no_ratio w a b =
    let d = sub_i (distance_of w a) (distance_of w b) in
    vague (sign_of d) || holds_zero d

-- a + (b - a) t, with t = da / (da - db)
unfoldable pub between : Plane → Point3 → Point3 → Point3
between w a b = add_v a (scale_v (sub_v b a) (div binary64 (height_of w a) (sub binary64 (height_of w a) (height_of w b))))

-- 9: "cut point not Zero"
unfoldable pub landed : Outcome Side → Point3 → Outcome Meet
landed (Ok Positive) q = Err (refusal_of 9)
landed (Ok Negative) q = Err (refusal_of 9)
landed (Ok Zero) q = Ok (M.Cut q.x q.y q.z)
landed (Err r) q = Err r

abbrev pub unless_vague : Bool → Outcome Meet → Outcome Meet
unless_vague bad m = cond bad (Err (refusal_of 8)) m

unfoldable pub cut_meet : Precision → Plane → Point3 → Point3 → Outcome Meet
cut_meet t w a b = unless_vague (no_ratio w a b) (landed (side_of t w (between w a b)) (between w a b))

unfoldable pub edge_meet : Precision → Plane → Point3 → Point3 → Outcome Side → Outcome Side → Outcome Meet
edge_meet t w a b sa sb = cond (crosses sa sb) (cut_meet t w a b) (Ok M.Drop)
