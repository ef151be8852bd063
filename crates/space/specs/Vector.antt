-- Points and vectors, rounded at each operation (01, "Numbers and stand-ins"). Definitions only.
use Rattle.std.specs.Prelude.{Bool, true, false, ◌&&◌, List, [], ◌∷◌, Float}
use Rattle.std.specs.Float.{nan, binary64}
use Rattle.std.specs.Float.Ieee.{of_bits, add, sub, mul, div, neg, le}
use Rattle.float.specs.Float.{abs, finite}
use Rattle.root.specs.Root.{sqrt_of}
use Rattle.interval.specs.declared.Interval.{Interval}
use Rattle.interval.specs.Ends.{point_i}
use Rattle.space.specs.declared.Point3.{Point3}
use Rattle.space.specs.declared.Precision.{Precision}

unfoldable pub sub_v : Point3 → Point3 → Point3
sub_v a b = record { x = sub binary64 a.x b.x; y = sub binary64 a.y b.y; z = sub binary64 a.z b.z }

unfoldable pub add_v : Point3 → Point3 → Point3
add_v a b = record { x = add binary64 a.x b.x; y = add binary64 a.y b.y; z = add binary64 a.z b.z }

unfoldable pub scale_v : Point3 → Float → Point3
scale_v a t = record { x = mul binary64 a.x t; y = mul binary64 a.y t; z = mul binary64 a.z t }

unfoldable pub over_v : Point3 → Float → Point3
over_v a t = record { x = div binary64 a.x t; y = div binary64 a.y t; z = div binary64 a.z t }

unfoldable pub neg_v : Point3 → Point3
neg_v a = record { x = neg a.x; y = neg a.y; z = neg a.z }

-- "Dot of vectors is (x·x' + y·y') + z·z'"
unfoldable pub dot_v : Point3 → Point3 → Float
dot_v a b = add binary64 (add binary64 (mul binary64 a.x b.x) (mul binary64 a.y b.y)) (mul binary64 a.z b.z)

abbrev pub minor_v : Float → Float → Float → Float → Float
minor_v p q r s = sub binary64 (mul binary64 p q) (mul binary64 r s)

-- "cross is y·z' - z·y', z·x' - x·z', x·y' - y·x'"
unfoldable pub cross_v : Point3 → Point3 → Point3
cross_v a b = record { x = minor_v a.y b.z a.z b.y; y = minor_v a.z b.x a.x b.z; z = minor_v a.x b.y a.y b.x }

-- "Length is squareRoot of a vector's dot with itself"
unfoldable pub length_v : Point3 → Float
length_v a = sqrt_of (dot_v a a)

-- what the logic reads past the end of an array of points
abbrev pub nowhere : Point3
nowhere = record { x = nan; y = nan; z = nan }

abbrev pub origin : Point3
origin = record { x = of_bits binary64 0; y = of_bits binary64 0; z = of_bits binary64 0 }

-- the three coordinates as point intervals
unfoldable pub box_of : Point3 → List Interval
box_of p = point_i p.x ∷ point_i p.y ∷ point_i p.z ∷ []

-- 2 ^ -40, 2 ^ -4 and 2 ^ 20
abbrev pub finest : Float
finest = of_bits binary64 0x3d70_0000_0000_0000

abbrev pub coarsest : Float
coarsest = of_bits binary64 0x3fb0_0000_0000_0000

abbrev pub most : Float
most = of_bits binary64 0x4130_0000_0000_0000

-- "2^-40 <= linear <= local <= 2^-4"; else 2
unfoldable pub fair_precision : Precision → Bool
fair_precision p = le finest p.linear && (le p.linear p.local && le p.local coarsest)

-- "Input coordinates are finite and at most 2^20 in size"; else 2
unfoldable pub fair : Float → Bool
fair x = le (abs x) most

unfoldable pub fair_point : Point3 → Bool
fair_point p = fair p.x && (fair p.y && fair p.z)

unfoldable pub finite_point : Point3 → Bool
finite_point p = finite p.x && (finite p.y && finite p.z)
