-- Where a point lies, in exact arithmetic with the numbers as they are stored. Definitions only.
-- The numbers are finite f64, each a whole number of units of 2 ^ -1074; a product of two is one of units of 2 ^ -2148.
use Rattle.std.specs.Prelude.{◌^◌, Float}
use Rattle.space.specs.declared.Point3.{Point3}
use Rattle.space.specs.declared.Plane.{Plane}
use Rattle.tube.specs.Whole.{Whole, units, sum, difference, opposite, product, finer, Below, NotAbove}

-- ---- a point and a plane

-- (x - o)·z
abbrev pub along : Float → Float → Float → Whole
along x o z = product (difference (units x) (units o)) (units z)

-- The distance of p from the plane w, above 0 on the outside: (p - origin) dot the normal as it is stored, in units of
-- 2 ^ -2148. It is not divided by the length of that normal, which is only nearly one.
unfoldable pub distance : Plane → Point3 → Whole
distance w p =
    sum (sum (along p.x w.frame.origin.x w.frame.z.x) (along p.y w.frame.origin.y w.frame.z.y))
    (along p.z w.frame.origin.z w.frame.z.z)

-- a tolerance in the distance's units
abbrev pub reach : Float → Whole
reach t = finer (2 ^ 1074) (units t)

-- distance > t: farther than t on the outside
abbrev pub Outside : Float → Plane → Point3 → Type 0
Outside t w p = Below (reach t) (distance w p)

-- distance < -t: farther than t on the inside
abbrev pub Inside : Float → Plane → Point3 → Type 0
Inside t w p = Below (distance w p) (opposite (reach t))

-- distance ≤ t, and distance ≥ -t
abbrev pub NotOutside : Float → Plane → Point3 → Type 0
NotOutside t w p = NotAbove (distance w p) (reach t)

abbrev pub NotInside : Float → Plane → Point3 → Type 0
NotInside t w p = NotAbove (opposite (reach t)) (distance w p)

-- both: within t of the plane
abbrev pub On : Float → Plane → Point3 → Type 0
On t w p = NotInside t w p × NotOutside t w p

-- ---- two points

-- a²
abbrev pub square : Whole → Whole
square a = product a a

-- the square of the distance of two points, in units of 2 ^ -2148
unfoldable pub squared_distance : Point3 → Point3 → Whole
squared_distance a b =
    sum (sum (square (difference (units a.x) (units b.x))) (square (difference (units a.y) (units b.y))))
    (square (difference (units a.z) (units b.z)))

-- nearer to each other than t, and farther: the squares are compared, in the same units
abbrev pub Nearer : Float → Point3 → Point3 → Type 0
Nearer t a b = Below (squared_distance a b) (square (units t))

abbrev pub Farther : Float → Point3 → Point3 → Type 0
Farther t a b = Below (square (units t)) (squared_distance a b)
