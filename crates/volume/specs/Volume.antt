-- `volume_sign` of fuse.rs: a shell's six-fold volume, fan by fan from its first corner, and its sign (21). Definitions only.
use Rattle.std.specs.Prelude.{List, [], ◌∷◌, map, get_or, Ok, Err}
use Rattle.refusal.specs.Outcome.{Outcome, refuse}
use Rattle.interval.specs.declared.Interval.{Interval}
use Rattle.interval.specs.declared.Sign.{Sign}
use Rattle.interval.specs.declared.Sign.TheVariants as S
use Rattle.interval.specs.Ends.{zero, point_i, add_i, mul_i, sign_of}
use Rattle.interval.specs.Box.{at, difference_i, cross_i}
use Rattle.space.specs.declared.Point3.{Point3}
use Rattle.space.specs.Vector.{nowhere, box_of}
use Rattle.bodies.specs.Fusing.{Sense, outward, inward}
use Rattle.volume.specs.declared.Sensed.{Sensed}
use Rattle.volume.specs.declared.Sensed.TheVariants as W

-- a dot n is added in three parts
unfoldable pub wedge : Interval → List Interval → List Interval → Interval
wedge v a n = add_i (add_i (add_i v (mul_i (at a 0) (at n 0))) (mul_i (at a 1) (at n 1))) (mul_i (at a 2) (at n 2))

unfoldable pub fan : Interval → List Interval → List (List Interval) → Interval
fan v a [] = v
fan v a (b ∷ []) = v
fan v a (b ∷ c ∷ l) = fan (wedge v a (cross_i b c)) a (c ∷ l)

unfoldable pub fan_of : Interval → List (List Interval) → Interval
fan_of v [] = v
fan_of v (a ∷ l) = fan v a l

-- the facets of a shell as lists of points; o is the origin
unfoldable pub volume_from : List Interval → Interval → List (List Point3) → Interval
volume_from o v [] = v
volume_from o v (f ∷ l) = volume_from o (fan_of v (map (λ q. difference_i (box_of q) o) f)) l

abbrev pub first_corner : List (List Point3) → Point3
first_corner l = get_or (get_or l 0 []) 0 nowhere

-- 01: "shell volume uncertified"
unfoldable pub sense_of : Sign → Outcome Sense
sense_of S.Positive = Ok outward
sense_of S.Negative = Ok inward
sense_of S.Zero = refuse 21
sense_of S.Unknown = refuse 21

unfoldable pub volume_sign : List (List Point3) → Outcome Sense
volume_sign l = sense_of (sign_of (volume_from (box_of (first_corner l)) (point_i zero) l))

-- what the program's answer says
unfoldable pub sensed : Outcome Sensed → Outcome Sense
sensed (Ok W.Outward) = Ok outward
sensed (Ok W.Inward) = Ok inward
sensed (Err r) = Err r
