-- What the tube means: the side of a point, as a fact about space.
use Rattle.std.specs.Prelude.{◌≡◌, ℕ, ◌+◌, ◌*◌, ◌^◌, ◌≤◌, ◌<◌, T, Float, Ok}
use Rattle.std.proofs.Common.{sym, subst, mul-le-mul_right, arith, pow_pos}
use Rattle.std.specs.Float.{binary64}
use Rattle.std.specs.Float.Ieee.{neg}
use Rattle.std.specs.Float.Ieee.Fits.{neg-fits}
use Rattle.float.specs.Float.{finite}
use Rattle.float.specs.Exact.{plus, minus}
use Rattle.float.proofs.Laws.{Held}
use Rattle.float.proofs.Rounded.{neg_plus, neg_finite}
use Rattle.float.proofs.Places.{le_at, lt_at, le_numbers, lt_numbers, place_units, place_strict, within}
use Rattle.float.proofs.Products.{finite_between}
use Rattle.interval.specs.Ends.{point_i, add_i, sub_i, mul_i}
use Rattle.interval.specs.Box.{dot_i, difference_i}
use Rattle.interval.specs.Exact.{Holds, Bounded}
use Rattle.interval.proofs.Laws.{mul_ordered, add_ordered, above_tolerance, below_tolerance}
use Rattle.space.specs.declared.Point3.{Point3}
use Rattle.space.specs.declared.Plane.{Plane}
use Rattle.space.specs.declared.Precision.{Precision}
use Rattle.space.specs.Vector.{box_of}
use Rattle.side.specs.declared.Side.TheVariants.{Positive, Negative, Zero}
use Rattle.side.specs.Sides.{distance_of, side_of}
use Rattle.tube.specs.Whole.{units, difference}
use Rattle.tube.specs.Distance.{along, distance, Outside, Inside, On}
use Rattle.tube.specs.Certain.{side_above, side_below, side_zero, distance_ordered}
use Rattle.tube.specs.Sure.{Sure, point_sure, gap_sure, add_sure, mul_sure}
use Rattle.tube.specs.Tube.{Tube, Held3, Given}

-- ---- the distance's interval holds the exact distance where its two ends are finite: all ends on the way are then, too
pub distance_sure : (w : Plane) (p : Point3) → Held3 p → Held3 w.frame.origin → Held3 w.frame.z
    → Sure (distance_of w p) (distance w p) (2 ^ 1074)
unfolding distance_of dot_i difference_i box_of distance
distance_sure w p P O Z =
    let o = w.frame.origin in
    let z = w.frame.z in
    let a = sub_i (point_i p.x) (point_i o.x) in
    let b = sub_i (point_i p.y) (point_i o.y) in
    let c = sub_i (point_i p.z) (point_i o.z) in
    let x = mul_i a (point_i z.x) in
    let y = mul_i b (point_i z.y) in
    let ox = mul_ordered a (point_i z.x) in
    let oy = mul_ordered b (point_i z.y) in
    let oz = mul_ordered c (point_i z.z) in
    add_sure (add_i x y) (mul_i c (point_i z.z)) _ _ (2 ^ 1074) (add_ordered x y ox oy) oz
    (add_sure x y _ _ (2 ^ 1074) ox oy
    (along_sure p.x o.x z.x P.x_held O.x_held Z.x_held)
    (along_sure p.y o.y z.y P.y_held O.y_held Z.y_held))
    (along_sure p.z o.z z.z P.z_held O.z_held Z.z_held)
  where
    along_sure : (x o z : Float) → Held x → Held o → Held z → Sure (mul_i (sub_i (point_i x) (point_i o)) (point_i z)) (along x o z) (2 ^ 1074)
    along_sure x o z f g h =
        mul_sure (sub_i (point_i x) (point_i o)) (point_i z) (difference (units x) (units o)) (units z) 1 1 (gap_sure x o f g) (point_sure z h)

-- ---- an end beyond the tolerance t, and the number m - n over l that it bounds; t is tp - tn, -t is np - nn
over_low : (tp tn lp ln m n l : ℕ) → 0 < l → tp + ln < lp + tn → lp * l + n ≤ m + ln * l → tp * l + n < m + tn * l
over_low tp tn lp ln m n l L h k = omega (arith, mul-le-mul_right l h)

under_high : (tp tn np nn hp hn m n l : ℕ) → 0 < l → np ≡ tn → nn ≡ tp → hp + nn < np + hn → m + hn * l ≤ hp * l + n
    → m + tp * l < tn * l + n
under_high tp tn np nn hp hn m n l L e f h k = let u : hp + tp < tn + hn = omega arith in omega (arith, mul-le-mul_right l u)

in_high : (tp tn hp hn m n l : ℕ) → hp + tn ≤ tp + hn → m + hn * l ≤ hp * l + n → m + tn * l ≤ tp * l + n
in_high tp tn hp hn m n l h k = omega (arith, mul-le-mul_right l h)

in_low : (tp tn np nn lp ln m n l : ℕ) → np ≡ tn → nn ≡ tp → np + ln ≤ lp + nn → lp * l + n ≤ m + ln * l → tn * l + n ≤ m + tp * l
in_low tp tn np nn lp ln m n l e f h k = let u : tn + ln ≤ lp + tp = omega arith in omega (arith, mul-le-mul_right l u)

-- ---- the three answers
module _ (t : Precision) (w : Plane) (p : Point3) (G : Given t w p) where
  holds : Bounded (distance_of w p) → Holds (distance_of w p) (distance w p).more (distance w p).less (2 ^ 1074)
  holds B = (distance_sure w p G.point G.from G.normal).holds B

  back_held : Held (neg t.local)
  back_held = neg-fits binary64 t.local G.local_held

  back_finite : T (finite (neg t.local))
  back_finite = subst T (sym (neg_finite t.local)) G.local_finite

  -- a point in the tube has a distance with finite ends
  pub zero_bounded : side_of t w p ≡ Ok Zero → Bounded (distance_of w p)
  zero_bounded e =
      let q = side_zero t w p e in
      let o = distance_ordered w p in
      let m = le_numbers (neg t.local) (distance_of w p).lo back_held o.lo_held q.0 in
      let n = le_numbers (distance_of w p).hi t.local o.hi_held G.local_held q.1 in
      let a = le_at m.0 m.1 q.0 in
      let b = le_at n.0 n.1 q.1 in
      let c = le_at m.1 n.0 o.order in
      let x = (within t.local G.local_held G.local_finite).1 in
      let y = (within (neg t.local) m.0.held back_finite).0 in
      record {
        lo_finite = finite_between m.1 (omega (arith, a, y)) (omega (arith, b, c, x));
        hi_finite = finite_between n.0 (omega (arith, a, c, y)) (omega (arith, b, x));
      }

  -- of a point that is called Zero nothing more is asked
  pub on : side_of t w p ≡ Ok Zero → On t.local w p
  on e =
      let B = zero_bounded e in
      let d = distance_of w p in
      let q = side_zero t w p e in
      let o = distance_ordered w p in
      let m = le_numbers (neg t.local) d.lo back_held o.lo_held q.0 in
      let n = le_numbers d.hi t.local o.hi_held G.local_held q.1 in
      let v = neg_plus t.local in
      let a = place_units (neg t.local) d.lo back_held o.lo_held back_finite B.lo_finite (le_at m.0 m.1 q.0) in
      let b = place_units d.hi t.local o.hi_held G.local_held B.hi_finite G.local_finite (le_at n.0 n.1 q.1) in (
        in_low (plus t.local) (minus t.local) (plus (neg t.local)) (minus (neg t.local)) (plus d.lo) (minus d.lo)
            (distance w p).more (distance w p).less (2 ^ 1074) v.0 v.1 a (holds B).low,
        in_high (plus t.local) (minus t.local) (plus d.hi) (minus d.hi) (distance w p).more (distance w p).less
            (2 ^ 1074) b (holds B).high,
      )

  pub outside : Bounded (distance_of w p) → side_of t w p ≡ Ok Positive → Outside t.local w p
  outside B e =
      let d = distance_of w p in
      let o = distance_ordered w p in
      let h = above_tolerance d t.local o.lo_held G.local_held (side_above t w p e) in
      let n = lt_numbers t.local d.lo G.local_held o.lo_held h in
      let u = place_strict t.local d.lo G.local_held o.lo_held G.local_finite B.lo_finite (lt_at n.0 n.1 h) in
      over_low (plus t.local) (minus t.local) (plus d.lo) (minus d.lo) (distance w p).more (distance w p).less
      (2 ^ 1074) (pow_pos 1074) u (holds B).low

  pub inside : Bounded (distance_of w p) → side_of t w p ≡ Ok Negative → Inside t.local w p
  inside B e =
      let d = distance_of w p in
      let o = distance_ordered w p in
      let h = below_tolerance d t.local o.hi_held G.local_held (side_below t w p e) in
      let n = lt_numbers d.hi (neg t.local) o.hi_held back_held h in
      let v = neg_plus t.local in
      let u = place_strict d.hi (neg t.local) o.hi_held back_held B.hi_finite back_finite (lt_at n.0 n.1 h) in
      under_high (plus t.local) (minus t.local) (plus (neg t.local)) (minus (neg t.local)) (plus d.hi) (minus d.hi)
      (distance w p).more (distance w p).less (2 ^ 1074) (pow_pos 1074) v.0 v.1 u (holds B).high

-- ---- the theorem: where the two ends of the distance are finite
pub tube : (t : Precision) (w : Plane) (p : Point3) → Given t w p → Bounded (distance_of w p) → Tube t w p
tube t w p G B = record { positive = outside t w p G B; negative = inside t w p G B; zero = on t w p G }
