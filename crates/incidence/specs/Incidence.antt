-- One point against one edge, as `conform` of 000 has it: 15, 16. Definitions only.
use Rattle.std.specs.Prelude.{Bool, not, cond, List, Ok, Err, Some, None, Option}
use Rattle.std.specs.Float.{binary64}
use Rattle.std.specs.Float.Ieee.{mul}
use Rattle.refusal.specs.Outcome.{Outcome, refusal_of}
use Rattle.interval.specs.declared.Interval.{Interval}
use Rattle.interval.specs.declared.Sign.{Sign}
use Rattle.interval.specs.declared.Sign.TheVariants.{Positive, Negative, Zero, Unknown}
use Rattle.interval.specs.Ends.{point_i, add_i, sub_i, mul_i, sqr_i, sign_of}
use Rattle.interval.specs.Box.{at, dot_i, difference_i, cross_i}
use Rattle.space.specs.declared.Point3.{Point3}
use Rattle.space.specs.declared.Precision.{Precision}
use Rattle.space.specs.Vector.{sub_v, length_v, box_of}
use Rattle.side.specs.Sides.{is_positive}
use Rattle.incidence.specs.declared.Line.{Line}

-- the sign is certainly Positive
unfoldable pub surely : Interval → Bool
surely i = is_positive (sign_of i)

-- l2 of 000
unfoldable pub squares : List Interval → Interval
squares e = add_i (add_i (sqr_i (at e 0)) (sqr_i (at e 1))) (sqr_i (at e 2))

-- linear times the length, rounded outside the interval
unfoldable pub margin_of : Precision → Point3 → Point3 → Interval
margin_of t a b = point_i (mul binary64 t.linear (length_v (sub_v b a)))

unfoldable pub line_on : Precision → List Interval → List Interval → Interval → Interval → Line
line_on t o e l m = record { origin = o; edge = e; square = l; margin = m; tube = mul_i (sqr_i (point_i t.local)) l }

-- the edge from a to b
unfoldable pub line_of : Precision → Point3 → Point3 → Line
line_of t a b = (let e = difference_i (box_of b) (box_of a) in line_on t (box_of a) e (squares e) (margin_of t a b))

-- 01: arrangement edge collapsed
unfoldable pub is_collapsed : Precision → Line → Bool
is_collapsed t e = not (surely (sub_i e.square (sqr_i (point_i t.linear))))

-- the separation of a point whose projection is w; 01: incidence unresolved
unfoldable pub judged : Sign → Interval → Outcome (Option Interval)
judged Positive w = Ok None
judged Negative w = Ok (Some w)
judged Zero w = Ok (Some w)
judged Unknown w = Err (refusal_of 16)

unfoldable pub beside : Line → List Interval → Interval → Outcome (Option Interval)
beside e d w = (let c = cross_i d e.edge in judged (sign_of (sub_i (dot_i c c) e.tube)) w)

-- a projection is strictly inside where it is certainly farther than the margin from both ends
unfoldable pub is_behind_start : Line → Interval → Bool
is_behind_start e w = surely (sub_i w e.margin)

unfoldable pub is_before_end : Line → Interval → Bool
is_before_end e w = surely (sub_i (sub_i e.square w) e.margin)

unfoldable pub before_end : Line → List Interval → Interval → Outcome (Option Interval)
before_end e d w = cond (is_before_end e w) (beside e d w) (Ok None)

unfoldable pub incidence_on : Line → List Interval → Interval → Outcome (Option Interval)
incidence_on e d w = cond (is_behind_start e w) (before_end e d w) (Ok None)

unfoldable pub incidence_of : Line → Point3 → Outcome (Option Interval)
incidence_of e q = (let d = difference_i (box_of q) e.origin in incidence_on e d (dot_i d e.edge))
