-- Near: 6. Definitions only.
use Rattle.std.specs.Prelude.{Float, Ok, Err}
use Rattle.interval.specs.declared.Interval.{Interval}
use Rattle.interval.specs.declared.Sign.{Sign}
use Rattle.interval.specs.declared.Sign.TheVariants.{Positive, Negative, Zero, Unknown}
use Rattle.interval.specs.Ends.{point_i, add_i, sub_i, sqr_i, sign_of}
use Rattle.refusal.specs.Outcome.{Outcome, refusal_of}
use Rattle.space.specs.declared.Point3.{Point3}
use Rattle.space.specs.declared.Precision.{Precision}
use Rattle.space.specs.declared.Closeness.{Closeness}
use Rattle.space.specs.declared.Closeness.TheVariants.{Near, Apart}

-- "Negative or Zero: near. Positive: apart. None: refused"
unfoldable pub closeness_of : Sign → Outcome Closeness
closeness_of Positive = Ok Apart
closeness_of Negative = Ok Near
closeness_of Zero = Ok Near
closeness_of Unknown = Err (refusal_of 6)

unfoldable pub gap_i : Float → Float → Interval
gap_i a b = sqr_i (sub_i (point_i a) (point_i b))

-- "the interval sum (x+y)+z of the squared differences, minus the square of local"
unfoldable pub near_of : Precision → Point3 → Point3 → Outcome Closeness
near_of p a b =
    closeness_of (sign_of (sub_i (add_i (add_i (gap_i a.x b.x) (gap_i a.y b.y)) (gap_i a.z b.z)) (sqr_i (point_i p.local))))
