-- What near means: two points called Near are nearer to each other than local, two called Apart farther, in exact arithmetic.
use Rattle.std.specs.Prelude.{◌≡◌, Ok}
use Rattle.interval.specs.declared.Interval.{Interval}
use Rattle.interval.specs.Ends.{point_i, add_i, sub_i, sqr_i}
use Rattle.space.specs.declared.Point3.{Point3}
use Rattle.space.specs.declared.Precision.{Precision}
use Rattle.space.specs.declared.Closeness.TheVariants.{Near, Apart}
use Rattle.space.specs.Near.{gap_i, near_of}
use Rattle.tube.specs.Distance.{Nearer, Farther}

-- ---- NEAR: what each answer says of the exact square of the distance (specs/Distance), against the exact square of local.
-- Two points of which near is refused (6) are said nothing of.
pub record Nearness (t : Precision) (a b : Point3) : Type 0 where
  pub near : near_of t a b ≡ Ok Near → Nearer t.local a b
  pub apart : near_of t a b ≡ Ok Apart → Farther t.local a b

-- the square of the distance in intervals, and what it is above the square of local: the interval whose sign decides
abbrev pub squared_i : Point3 → Point3 → Interval
squared_i a b = add_i (add_i (gap_i a.x b.x) (gap_i a.y b.y)) (gap_i a.z b.z)

abbrev pub excess_i : Precision → Point3 → Point3 → Interval
excess_i t a b = sub_i (squared_i a b) (sqr_i (point_i t.local))
