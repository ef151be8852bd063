-- The figures of docs/TUBE.md. P1 to P3 of document 01 in exact numbers: the plane at the origin with normal +x, the point
-- (d,0,0), local 2 ^ -18; and near. Computed from the definitions; the sides of P1 to P3 stand in crate worked. Assumes nothing.
use Rattle.std.specs.Prelude.{◌≡◌, refl, true, false, ◌+◌, ◌-◌, ◌*◌, ◌^◌, pos, negsuc, Float, Ok, Err}
use Rattle.std.proofs.Common.{ltb→lt, leb→le}
use Rattle.std.specs.Float.{fin}
use Rattle.std.specs.Float.Ieee.{fits, is_nan, lt, le, eq, add, sub, mul, div, neg, to_bits, of_bits}
use Rattle.refusal.specs.Outcome.{refusal_of}
use Rattle.float.specs.Float.{next_up, next_down, next_bits}
use Rattle.float.specs.Exact.{plus, minus}
use Rattle.interval.specs.Ends.{outward, add_i, sub_i, hull_of, mul_i, holds_zero, square_of, sqr_i, sign_of}
use Rattle.interval.specs.Box.{dot_i, difference_i}
use Rattle.space.specs.declared.Point3.{Point3}
use Rattle.space.specs.declared.Plane.{Plane}
use Rattle.space.specs.declared.Precision.{Precision}
use Rattle.space.specs.declared.Closeness.TheVariants as N
use Rattle.space.specs.Vector.{over_v, box_of}
use Rattle.space.specs.Near.{closeness_of, gap_i, near_of}
use Rattle.side.specs.declared.Side.TheVariants.{Positive, Negative, Zero}
use Rattle.side.specs.Sides.{distance_of, classed, side_of}
use Rattle.tube.specs.Whole.{nought, units, opposite}
use Rattle.tube.specs.Distance.{distance, reach, Outside, Inside, On, square, squared_distance, Nearer, Farther}

abbrev none : Float
none = fin false 0 (pos 0)

abbrev one : Float
one = fin false 1 (pos 0)

-- half of local, local, twice local, and as far on the other side
abbrev pub half : Float
half = fin false 1 (negsuc 18)

abbrev pub local : Float
local = fin false 1 (negsuc 17)

abbrev pub twice : Float
twice = fin false 1 (negsuc 16)

abbrev pub back : Float
back = fin true 1 (negsuc 16)

abbrev pub tol : Precision
tol = record { linear = fin false 1 (negsuc 19); local = local }

abbrev triple : Float → Float → Float → Point3
triple a b c = record { x = a; y = b; z = c }

abbrev pub wall : Plane
wall = record {
  frame = record { origin = triple none none none; x = triple none one none; y = triple none none one; z = triple one none none };
  mark = none;
}

abbrev pub at : Float → Point3
at d = triple d none none

-- ---- the exact distance is d
pub distance_none : distance wall (at none) ≡ nought
unfolding distance
distance_none = refl

pub distance_half : distance wall (at half) ≡ reach half
unfolding distance
distance_half = refl

pub distance_local : distance wall (at local) ≡ reach local
unfolding distance
distance_local = refl

pub distance_twice : distance wall (at twice) ≡ reach twice
unfolding distance
distance_twice = refl

pub distance_back : distance wall (at back) ≡ opposite (reach twice)
unfolding distance
distance_back = refl

-- ---- P1: within local of the plane. P2: exactly local is still within local, though the side test refuses it, since intervals
-- always widen. P3: twice local is outside; as far on the other side it is inside
pub p1_on : On local wall (at half)
unfolding distance
p1_on = (leb→le _ _ tt, leb→le _ _ tt)

pub p2_on : On local wall (at local)
unfolding distance
p2_on = (leb→le _ _ tt, leb→le _ _ tt)

pub p3_outside : Outside local wall (at twice)
unfolding distance
p3_outside = ltb→lt _ _ tt

pub back_inside : Inside local wall (at back)
unfolding distance
back_inside = ltb→lt _ _ tt

-- ---- two points half of local apart are nearer than local, two twice local apart farther; exactly local apart they are neither
pub half_nearer : Nearer local (at none) (at half)
unfolding squared_distance
half_nearer = ltb→lt _ _ tt

pub twice_farther : Farther local (at none) (at twice)
unfolding squared_distance
twice_farther = ltb→lt _ _ tt

pub local_apart : (squared_distance (at none) (at local)).more ≡ (squared_distance (at none) (at local)).less + (square (units local)).more
unfolding squared_distance
local_apart = refl

-- ---- what is computed with: the ends of the distance's interval, in units of 2 ^ -1074
unfoldable opened : Unit {0}
unfolding side_of classed distance_of dot_i difference_i box_of near_of closeness_of gap_i add_i sub_i mul_i sqr_i outward hull_of square_of holds_zero sign_of
opened = tt

unfoldable pub rounded : Unit {0}
unfolding opened next_up next_down next_bits add sub mul neg lt le eq is_nan fits to_bits of_bits
rounded = tt

pub ends_none : (minus (distance_of wall (at none)).lo ≡ 6) × (plus (distance_of wall (at none)).hi ≡ 6)
unfolding rounded
ends_none = (refl, refl)

pub ends_half : (plus (distance_of wall (at half)).lo ≡ 2 ^ 1055 - 2 ^ 1004) × (plus (distance_of wall (at half)).hi ≡ 2 ^ 1055 + 2 ^ 1005)
unfolding rounded
ends_half = (refl, refl)

pub ends_local : (plus (distance_of wall (at local)).lo ≡ 2 ^ 1056 - 2 ^ 1005) × (plus (distance_of wall (at local)).hi ≡ 2 ^ 1056 + 2 ^ 1006)
unfolding rounded
ends_local = (refl, refl)

pub ends_twice : (plus (distance_of wall (at twice)).lo ≡ 2 ^ 1057 - 2 ^ 1006) × (plus (distance_of wall (at twice)).hi ≡ 2 ^ 1057 + 2 ^ 1007)
unfolding rounded
ends_twice = (refl, refl)

pub ends_back : (minus (distance_of wall (at back)).lo ≡ 2 ^ 1057 + 2 ^ 1007) × (minus (distance_of wall (at back)).hi ≡ 2 ^ 1057 - 2 ^ 1006)
unfolding rounded
ends_back = (refl, refl)

-- ---- the sides beside those of P1 to P3: where Zero ends and Positive begins, and the other side
pub last_zero : side_of tol wall (at (fin false (2 ^ 51 - 1) (negsuc 68))) ≡ Ok Zero
unfolding rounded
last_zero = refl

pub first_refused : side_of tol wall (at (fin false (2 ^ 53 - 3) (negsuc 70))) ≡ Err (refusal_of 7)
unfolding rounded
first_refused = refl

pub last_refused : side_of tol wall (at (fin false (2 ^ 52 + 4) (negsuc 69))) ≡ Err (refusal_of 7)
unfolding rounded
last_refused = refl

pub first_positive : side_of tol wall (at (fin false (2 ^ 52 + 5) (negsuc 69))) ≡ Ok Positive
unfolding rounded
first_positive = refl

pub back_negative : side_of tol wall (at back) ≡ Ok Negative
unfolding rounded
back_negative = refl

-- ---- and near
pub half_near : near_of tol (at none) (at half) ≡ Ok N.Near
unfolding rounded
half_near = refl

pub local_refused : near_of tol (at none) (at local) ≡ Err (refusal_of 6)
unfolding rounded
local_refused = refl

pub twice_apart : near_of tol (at none) (at twice) ≡ Ok N.Apart
unfolding rounded
twice_apart = refl

-- ---- the normal (3,0,4) over its length 5, as it is stored, and the square of its own length: 1 + 3602879701896397 · 2 ^ -106
abbrev pub dip : Point3
dip = triple (fin false 5404319552844595 (negsuc 52)) none (fin false 3602879701896397 (negsuc 51))

pub dip_stored : over_v (triple (fin false 3 (pos 0)) none (fin false 1 (pos 2))) (fin false 5 (pos 0)) ≡ dip
unfolding over_v div
dip_stored = refl

pub dip_length : (squared_distance dip (at none)).more ≡ (squared_distance dip (at none)).less + (2 ^ 2148 + 3602879701896397 * 2 ^ 2042)
unfolding squared_distance
dip_length = refl
