-- Where the operands hold the exact numbers, a stepped sum, difference, product, square or reciprocal with finite ends holds the exact one; and where the ends of a sum or a product are finite, so are those of its operands. Assumes nothing.
use Rattle.std.specs.Prelude.{Some}
use mathlib.Core.Path.{◌≡◌, refl, sym, ap, ◌∙◌, subst}
use mathlib.Core.Logic.{◌⊎◌, inl, inr}
use mathlib.Core.Bool.{Bool, true, false, not, cond}
use Prim.Native.Nat.{ℕ, ◌+◌, ◌-◌, ◌*◌, ◌^◌, ◌≤◌, ◌<◌}
use native.Mathlib.Nat.{le_trans, le_refl, zero-mul, mul-le-mul_right, mul-pos}
use native.Mathlib.Omega.{arith}
use lib.Dec.{T}
use lib.Pow.{pow_pos}
use lib.Ieee.{Float, inf, binary64, is_nan, fits, lt, neg, add, sub, mul, of_bits}
use lib.Ieee.Fits.{add-fits, sub-fits, mul-fits, neg-fits}
use Rattle.float.specs.Float.{sign_bit, next_up, next_down, finite, lesser, greater}
use Rattle.float.specs.Exact.{plus, minus}
use Rattle.float.proofs.Rounded.{add_up, add_down, mul_up, mul_down, times_plus, times_minus, neg_plus, neg_finite, cancel}
use Rattle.float.proofs.Places.{place, side, Number, within, inf_place, positive_place, negative_place, le_of, le_at, place_units, place_strict, up_number, up_moves, down_number, down_moves, down_place}
use Rattle.float.proofs.Laws.{infinite, lesser_is, greater_is, lesser_over, next_up_top, next_down_bottom, up_mono, down_mono}
use Rattle.float.proofs.Sums.{add_mono, between as ends_between, finite_add, finite_real, unit_up, unit_down}
use Rattle.float.proofs.Products.{product, mul_left, finite_between, finite_mul, rises, square_above}
use Rattle.float.proofs.Quotients.{over, inverted, over_number, over_falls, over_up, over_down}
use Rattle.interval.specs.declared.Interval.{Interval}
use Rattle.interval.specs.declared.Sign.TheVariants.{Positive, Negative}
use Rattle.interval.specs.Ends.{zero, point_i, outward, add_i, sub_i, hull_of, mul_i, holds_zero, sqr_i, sign_of, inverse_of}
use Rattle.interval.specs.Exact.{Holds, Bounded, Finite}
use Rattle.interval.proofs.Laws.{Ordered, positive_low, negative_high, by_step, by_hull, by_square, square_ends, opposite, opposite_ordered, minus_is, Four, four, zero_beside, inverse_is}

numbered : (x : Float) → T (fits binary64 x) → T (finite x) → Number x
numbered x f k = record { held = f; real = finite_real x k }

-- ---- points, and other denominators
pub point_holds : (x : Float) → Holds (point_i x) (plus x) (minus x) 1
point_holds x = record { over = omega arith; low = omega arith; high = omega arith }

pub holds_over : (a : Interval) (p n c k : ℕ) → 0 < k → Holds a p n c → Holds a (p * k) (n * k) (c * k)
holds_over a p n c k K h = record {
  over = mul-pos h.over K;
  low = omega (arith, mul-le-mul_right k h.low);
  high = omega (arith, mul-le-mul_right k h.high);
}

-- ---- an interval that holds a number has its ends in order
module _ (a : Interval) (p n c : ℕ) (A : Finite a) (H : Holds a p n c) where
  units_order : plus a.lo + minus a.hi ≤ plus a.hi + minus a.lo
  units_order = cancel (plus a.lo) (minus a.lo) (minus a.hi) (plus a.hi) c H.over (omega (arith, H.low, H.high))

  pub holds_order : place a.lo ≤ place a.hi
  holds_order = elim (side (place a.hi) (place a.lo)) [
    | inl l ↦ let u = place_strict a.hi a.lo A.hi_fits A.lo_fits A.bounded.hi_finite A.bounded.lo_finite l in absurd (omega (arith, u, units_order))
    | inr l ↦ l
  ]

  pub holds_ordered : Ordered a
  holds_ordered = record { lo_held = A.lo_fits; hi_held = A.hi_fits; order = le_of (numbered a.lo A.lo_fits A.bounded.lo_finite) (numbered a.hi A.hi_fits A.bounded.hi_finite) holds_order }

-- ---- two ends in order that are finite once they are stepped were finite before
both_finite : {l h : Float} → Number l → Number h → place l ≤ place h → T (finite (next_down l)) → T (finite (next_up h)) → T (finite l) × T (finite h)
both_finite {l} {h} a b o d u = go (ends_between l h a b o)
  where
    go : (l ≡ inf true) ⊎ ((h ≡ inf false) ⊎ (T (finite l) × T (finite h))) → T (finite l) × T (finite h)
    go (inl e) = absurd (subst (λ (z : Float). T (finite z)) (ap next_down e ∙ next_down_bottom) d)
    go (inr (inl e)) = absurd (subst (λ (z : Float). T (finite z)) (ap next_up e ∙ next_up_top) u)
    go (inr (inr k)) = k

-- what is known of two ends once their step is finite
pub record Ended (l h : Float) : Type 0 where
  pub is : outward l h ≡ record { lo = next_down l; hi = next_up h }
  pub low : T (finite l)
  pub high : T (finite h)
  pub down : T (finite (next_down l))
  pub up : T (finite (next_up h))

pub ended : (l h : Float) → T (fits binary64 l) → T (fits binary64 h) → (T (not (is_nan l)) → T (not (is_nan h)) → place l ≤ place h) → Bounded (outward l h) → Ended l h
ended l h f g o =
    by_step (λ (i : Interval). outward l h ≡ i → Bounded i → Ended l h) l h (λ n e B. absurd B.lo_finite)
    (λ p q e B.
    let k = both_finite {l = l} {h = h} (record { held = f; real = p }) (record { held = g; real = q }) (o p q) B.lo_finite B.hi_finite in
    record { is = e; low = k.0; high = k.1; down = B.lo_finite; up = B.hi_finite }) refl

-- ---- sums
add_ended : (a b : Interval) → Ordered a → Ordered b → Bounded (add_i a b) → Ended (add binary64 a.lo b.lo) (add binary64 a.hi b.hi)
unfolding add_i
add_ended a b p q =
    ended (add binary64 a.lo b.lo) (add binary64 a.hi b.hi) (add-fits binary64 a.lo b.lo) (add-fits binary64 a.hi b.hi)
    (λ r s. le_at (record { held = add-fits binary64 a.lo b.lo; real = r }) (record { held = add-fits binary64 a.hi b.hi; real = s })
    (add_mono a.lo a.hi b.lo b.hi p.lo_held p.hi_held q.lo_held q.hi_held r s p.order q.order))

pub add_holds : (a b : Interval) (p n q m c : ℕ) → Finite a → Finite b → Bounded (add_i a b) → Holds a p n c → Holds b q m c → Holds (add_i a b) (p + q) (n + m) c
unfolding add_i
add_holds a b p n q m c A B F H K =
    let E = add_ended a b (holds_ordered a p n c A H) (holds_ordered b q m c B K) F in
    let s = add_down a.lo b.lo A.lo_fits B.lo_fits A.bounded.lo_finite B.bounded.lo_finite E.low E.down in
    let t = add_up a.hi b.hi A.hi_fits B.hi_fits A.bounded.hi_finite B.bounded.hi_finite E.high E.up in
    subst (λ (i : Interval). Holds i (p + q) (n + m) c) (sym E.is)
    (record {
      over = H.over;
      low = omega (arith, mul-le-mul_right c s, H.low, K.low);
      high = omega (arith, mul-le-mul_right c t, H.high, K.high);
    })

-- ---- differences: the sum with the opposite
opposite_finite : (b : Interval) → Finite b → Finite (opposite b)
opposite_finite b B = record {
  lo_fits = neg-fits binary64 b.hi B.hi_fits;
  hi_fits = neg-fits binary64 b.lo B.lo_fits;
  bounded = record { lo_finite = subst T (sym (neg_finite b.hi)) B.bounded.hi_finite; hi_finite = subst T (sym (neg_finite b.lo)) B.bounded.lo_finite };
}

opposite_holds : (b : Interval) (q m c : ℕ) → Holds b q m c → Holds (opposite b) m q c
opposite_holds b q m c K =
    let u = neg_plus b.hi in
    let v = neg_plus b.lo in
    record {
      over = K.over;
      low = turned (plus (neg b.hi)) (minus (neg b.hi)) (plus b.hi) (minus b.hi) u.0 u.1 K.high;
      high = turned' (plus (neg b.lo)) (minus (neg b.lo)) (plus b.lo) (minus b.lo) v.0 v.1 K.low;
    }
  where
    turned : (x y hp hn : ℕ) → x ≡ hn → y ≡ hp → q + hn * c ≤ hp * c + m → x * c + q ≤ m + y * c
    turned x y hp hn e f h = rw (e, f) (omega (arith, h))

    turned' : (x y lp ln : ℕ) → x ≡ ln → y ≡ lp → lp * c + m ≤ q + ln * c → m + y * c ≤ x * c + q
    turned' x y lp ln e f h = rw (e, f) (omega (arith, h))

pub sub_holds : (a b : Interval) (p n q m c : ℕ) → Finite a → Finite b → Bounded (sub_i a b) → Holds a p n c → Holds b q m c → Holds (sub_i a b) (p + m) (n + q) c
sub_holds a b p n q m c A B F H K =
    subst (λ (i : Interval). Holds i (p + m) (n + q) c) (sym (minus_is a b))
    (add_holds a (opposite b) p n m q c A (opposite_finite b B) (subst Bounded (minus_is a b) F) H (opposite_holds b q m c K))

-- ---- multiplied out: of y in [c, d] and x in [a, b], x * y is not above what none of the four products is above
module _ (mp mn : ℕ) where
  -- y ≥ 0 and x ≤ b, or y ≤ 0 and a ≤ x
  between : (xp xn ap an bp bn yp yn : ℕ) → ap + xn ≤ xp + an → xp + bn ≤ bp + xn → ap * yp + an * yn + mn ≤ mp + (ap * yn + an * yp) → bp * yp + bn * yn + mn ≤ mp + (bp * yn + bn * yp) → xp * yp + xn * yn + mn ≤ mp + (xp * yn + xn * yp)
  between xp xn ap an bp bn yp yn l h u v = elim (side yp yn) [
    | inl k ↦ omega (arith, rises xn xp an ap (omega arith) yn yp (omega arith), u)
    | inr k ↦ omega (arith, rises xp xn bp bn h yp yn k, v)
  ]

  corners : (xp xn ap an bp bn yp yn cp cn dp dn : ℕ) → ap + xn ≤ xp + an → xp + bn ≤ bp + xn → cp + yn ≤ yp + cn → yp + dn ≤ dp + yn
      → ap * cp + an * cn + mn ≤ mp + (ap * cn + an * cp) → ap * dp + an * dn + mn ≤ mp + (ap * dn + an * dp)
      → bp * cp + bn * cn + mn ≤ mp + (bp * cn + bn * cp) → bp * dp + bn * dn + mn ≤ mp + (bp * dn + bn * dp)
      → xp * yp + xn * yn + mn ≤ mp + (xp * yn + xn * yp)
  corners xp xn ap an bp bn yp yn cp cn dp dn l h i j ac ad bc bd =
      let xc = between xp xn ap an bp bn cp cn l h ac bc in
      let xd = between xp xn ap an bp bn dp dn l h ad bd in
      swapped (between yp yn cp cn dp dn xp xn i j (swap cp cn xc) (swap dp dn xd))
    where
      swap : (zp zn : ℕ) → xp * zp + xn * zn + mn ≤ mp + (xp * zn + xn * zp) → zp * xp + zn * xn + mn ≤ mp + (zp * xn + zn * xp)
      swap zp zn h = omega (arith, h)

      swapped : yp * xp + yn * xn + mn ≤ mp + (yp * xn + yn * xp) → xp * yp + xn * yn + mn ≤ mp + (xp * yn + xn * yp)
      swapped h = omega (arith, h)

-- ---- a product, against an end that is not below it, or not above
chained : (tp tm up un vp vn l : ℕ) → tp + un * l ≤ up * l + tm → up + vn ≤ vp + un → tp + vn * l ≤ vp * l + tm
chained tp tm up un vp vn l h k = omega (arith, h, mul-le-mul_right l k)

chained' : (tp tm up un vp vn l : ℕ) → up * l + tm ≤ tp + un * l → vp + un ≤ up + vn → vp * l + tm ≤ tp + vn * l
chained' tp tm up un vp vn l h k = omega (arith, h, mul-le-mul_right l k)

module _ (x y g : Float) (f : T (fits binary64 x)) (f' : T (fits binary64 y)) (k : T (finite x)) (k' : T (finite y)) (G : Number g) (r : T (finite (mul binary64 x y))) where
  number : Number (mul binary64 x y)
  number = numbered (mul binary64 x y) (mul-fits binary64 x y) r

  corner_high : place (mul binary64 x y) ≤ place g → T (finite (next_up g)) → times_plus x y + minus (next_up g) * 2 ^ 1074 ≤ plus (next_up g) * 2 ^ 1074 + times_minus x y
  corner_high h t =
      let P = number in
      let m = up_mono P G h in
      let v = up_moves P in
      let w = (within (mul binary64 x y) P.held r).0 in
      let z = (within (next_up g) (up_number G).held t).1 in
      let F : T (finite (next_up (mul binary64 x y))) = finite_between (up_number P) (omega arith) (omega arith) in
      let u = place_units (next_up (mul binary64 x y)) (next_up g) (up_number P).held (up_number G).held F t m in
      chained (times_plus x y) (times_minus x y) (plus (next_up (mul binary64 x y))) (minus (next_up (mul binary64 x y))) (plus (next_up g)) (minus (next_up g)) (2 ^ 1074) (mul_up x y f f' k k' r F) u

  corner_low : place g ≤ place (mul binary64 x y) → T (finite (next_down g)) → plus (next_down g) * 2 ^ 1074 + times_minus x y ≤ times_plus x y + minus (next_down g) * 2 ^ 1074
  corner_low h t =
      let P = number in
      let m = down_mono G P h in
      let v = down_moves P in
      let w = (within (mul binary64 x y) P.held r).1 in
      let z = (within (next_down g) (down_number G).held t).0 in
      let F : T (finite (next_down (mul binary64 x y))) = finite_between (down_number P) (omega arith) (omega arith) in
      let u = place_units (next_down g) (next_down (mul binary64 x y)) (down_number G).held (down_number P).held t F m in
      chained' (times_plus x y) (times_minus x y) (plus (next_down (mul binary64 x y))) (minus (next_down (mul binary64 x y))) (plus (next_down g)) (minus (next_down g)) (2 ^ 1074) (mul_down x y f f' k k' r F) u

-- ---- the hull of four products, with finite ends
record Hulled (p q r s : Float) : Type 0 where
  is : hull_of p q r s ≡ outward (lesser (lesser p q) (lesser r s)) (greater (greater p q) (greater r s))
  among : Four p q r s
  end : Ended (lesser (lesser p q) (lesser r s)) (greater (greater p q) (greater r s))
  p_finite : T (finite p)
  q_finite : T (finite q)
  r_finite : T (finite r)
  s_finite : T (finite s)

hulled : (p q r s : Float) → T (fits binary64 p) → T (fits binary64 q) → T (fits binary64 r) → T (fits binary64 s) → Bounded (hull_of p q r s) → Hulled p q r s
hulled p q r s f g h k =
    by_hull (λ (i : Interval). hull_of p q r s ≡ i → Bounded i → Hulled p q r s) p q r s (λ n e B. absurd B.lo_finite)
    (λ a b c d e B.
    let P : Number p = record { held = f; real = a } in
    let Q : Number q = record { held = g; real = b } in
    let R : Number r = record { held = h; real = c } in
    let S : Number s = record { held = k; real = d } in
    let F = four P Q R S in
    let l = lesser (lesser p q) (lesser r s) in
    let m = greater (greater p q) (greater r s) in
    let E = ended l m F.least.held F.most.held (λ u v. le_trans F.lp F.mp) B in
    let w = (within l F.least.held E.low).0 in
    let v = (within m F.most.held E.high).1 in
    record {
      is = e;
      among = F;
      end = E;
      p_finite = finite_between P (omega (arith, w, F.lp)) (omega (arith, v, F.mp));
      q_finite = finite_between Q (omega (arith, w, F.lq)) (omega (arith, v, F.mq));
      r_finite = finite_between R (omega (arith, w, F.lr)) (omega (arith, v, F.mr));
      s_finite = finite_between S (omega (arith, w, F.ls)) (omega (arith, v, F.ms));
    })
    refl

-- ---- products: in units of 2 ^ -2148 over c * d
-- a corner's product against M, over c * d
spread : (xp xn yp yn up un l c d : ℕ) → xp * yp + xn * yn + un * l ≤ up * l + (xp * yn + xn * yp)
    → xp * c * (yp * d) + xn * c * (yn * d) + un * (c * d * l) ≤ up * (c * d * l) + (xp * c * (yn * d) + xn * c * (yp * d))
spread xp xn yp yn up un l c d h = omega (arith, mul-le-mul_right (c * d) h)

spread' : (xp xn yp yn up un l c d : ℕ) → up * l + (xp * yn + xn * yp) ≤ xp * yp + xn * yn + un * l
    → xp * c * (yn * d) + xn * c * (yp * d) + up * (c * d * l) ≤ un * (c * d * l) + (xp * c * (yp * d) + xn * c * (yn * d))
spread' xp xn yp yn up un l c d h = omega (arith, mul-le-mul_right (c * d) h)

pub mul_holds : (a b : Interval) (p n c q m d : ℕ) → Finite a → Finite b → Bounded (mul_i a b) → Holds a p n c → Holds b q m d → Holds (mul_i a b) (p * q + n * m) (p * m + n * q) (c * d * 2 ^ 1074)
unfolding mul_i
mul_holds a b p n c q m d A B N H K =
    let al = a.lo in let ah = a.hi in let bl = b.lo in let bh = b.hi in
    let U = hulled (mul binary64 al bl) (mul binary64 al bh) (mul binary64 ah bl) (mul binary64 ah bh) (mul-fits binary64 al bl) (mul-fits binary64 al bh) (mul-fits binary64 ah bl) (mul-fits binary64 ah bh) N in
    let fl = A.lo_fits in let fh = A.hi_fits in let gl = B.lo_fits in let gh = B.hi_fits in
    let kl = A.bounded.lo_finite in let kh = A.bounded.hi_finite in let jl = B.bounded.lo_finite in let jh = B.bounded.hi_finite in
    let F = U.among in
    let E = U.end in
    let l = lesser (lesser (mul binary64 al bl) (mul binary64 al bh)) (lesser (mul binary64 ah bl) (mul binary64 ah bh)) in
    let g = greater (greater (mul binary64 al bl) (mul binary64 al bh)) (greater (mul binary64 ah bl) (mul binary64 ah bh)) in
    let e = next_down l in
    let t = next_up g in
    let L = 2 ^ 1074 in
    let h1 = spread (plus al) (minus al) (plus bl) (minus bl) (plus t) (minus t) L c d (corner_high al bl g fl gl kl jl F.most U.p_finite F.mp E.up) in
    let h2 = spread (plus al) (minus al) (plus bh) (minus bh) (plus t) (minus t) L c d (corner_high al bh g fl gh kl jh F.most U.q_finite F.mq E.up) in
    let h3 = spread (plus ah) (minus ah) (plus bl) (minus bl) (plus t) (minus t) L c d (corner_high ah bl g fh gl kh jl F.most U.r_finite F.mr E.up) in
    let h4 = spread (plus ah) (minus ah) (plus bh) (minus bh) (plus t) (minus t) L c d (corner_high ah bh g fh gh kh jh F.most U.s_finite F.ms E.up) in
    let l1 = spread' (plus al) (minus al) (plus bl) (minus bl) (plus e) (minus e) L c d (corner_low al bl l fl gl kl jl F.least U.p_finite F.lp E.down) in
    let l2 = spread' (plus al) (minus al) (plus bh) (minus bh) (plus e) (minus e) L c d (corner_low al bh l fl gh kl jh F.least U.q_finite F.lq E.down) in
    let l3 = spread' (plus ah) (minus ah) (plus bl) (minus bl) (plus e) (minus e) L c d (corner_low ah bl l fh gl kh jl F.least U.r_finite F.lr E.down) in
    let l4 = spread' (plus ah) (minus ah) (plus bh) (minus bh) (plus e) (minus e) L c d (corner_low ah bh l fh gh kh jh F.least U.s_finite F.ls E.down) in
    let hi = corners (plus t * (c * d * L)) (minus t * (c * d * L)) p n (plus al * c) (minus al * c) (plus ah * c) (minus ah * c) q m (plus bl * d) (minus bl * d) (plus bh * d) (minus bh * d)
    H.low H.high K.low K.high h1 h2 h3 h4 in
    let lo = corners (minus e * (c * d * L)) (plus e * (c * d * L)) p n (plus al * c) (minus al * c) (plus ah * c) (minus ah * c) m q (minus bh * d) (plus bh * d) (minus bl * d) (plus bl * d)
    H.low H.high (turn q (minus bh * d) (plus bh * d) m K.high) (turn (plus bl * d) m q (minus bl * d) K.low) l2 l1 l4 l3 in
    subst (λ (i : Interval). Holds i (p * q + n * m) (p * m + n * q) (c * d * 2 ^ 1074)) (sym (U.is ∙ E.is))
    (record {
      over = mul-pos (mul-pos H.over K.over) (pow_pos 1074);
      low = back (plus e * (c * d * L)) (minus e * (c * d * L)) lo;
      high = hi;
    })
  where
    turn : (u v w z : ℕ) → u + v ≤ w + z → v + u ≤ z + w
    turn u v w z h = omega arith

    back : (x y : ℕ) → p * m + n * q + x ≤ y + (p * q + n * m) → x + (p * m + n * q) ≤ p * q + n * m + y
    back x y h = omega arith

-- ---- squares
-- 0 ≤ w ≤ x gives w * w ≤ x * x, multiplied out
squares_rise : (wp wn xp xn : ℕ) → wn ≤ wp → wp + xn ≤ xp + wn → wp * wp + wn * wn + (xp * xn + xn * xp) ≤ xp * xp + xn * xn + (wp * wn + wn * wp)
squares_rise wp wn xp xn z h = omega (arith, rises wp wn xp xn h wp wn z, rises wp wn xp xn h xp xn (omega arith))

-- a square is not negative
square_least : (p n : ℕ) → p * n + n * p ≤ p * p + n * n
square_least p n = elim (side p n) [
  | inl l ↦ omega (arith, rises 0 0 n p (omega arith) n p (omega arith))
  | inr l ↦ omega (arith, rises 0 0 p n (omega arith) p n l)
]

-- the squares of the ends, where the stepped one is finite
record Squared (a : Interval) : Type 0 where
  is : sqr_i a ≡ square_ends (holds_zero a) (mul binary64 a.lo a.lo) (mul binary64 a.hi a.hi)
  low : T (finite (mul binary64 a.lo a.lo))
  high : T (finite (mul binary64 a.hi a.hi))
  down : T (finite (next_down (lesser (mul binary64 a.lo a.lo) (mul binary64 a.hi a.hi))))
  up : T (finite (next_up (greater (mul binary64 a.lo a.lo) (mul binary64 a.hi a.hi))))

squared : (a : Interval) → Bounded (sqr_i a) → Squared a
unfolding sqr_i
squared a =
    by_square (λ (i : Interval). sqr_i a ≡ i → Bounded i → Squared a) (holds_zero a) x y (λ n e B. absurd B.lo_finite)
    (λ r s e B.
    let P = product a.lo a.lo r in
    let Q = product a.hi a.hi s in
    let g = greater_is P Q in
    let l = lesser_is P Q in
    let b = square_above a.lo (mul_left a.lo a.lo r) in
    let c = square_above a.hi (mul_left a.hi a.hi s) in
    let m = lesser_over x y sign_bit b c in
    let t = inf_place true in
    let w = (within (next_up (greater x y)) (up_number g.0).held B.hi_finite).1 in
    let u = up_moves g.0 in
    let d = down_place l.0 (omega arith) in
    record {
      is = e;
      low = finite_between P (omega arith) (omega (arith, g.1.0));
      high = finite_between Q (omega arith) (omega (arith, g.1.1));
      down = finite_between (down_number l.0) (omega arith) (omega (arith, l.1.0, g.1.0));
      up = B.hi_finite;
    })
    refl
  where
    x : Float
    x = mul binary64 a.lo a.lo

    y : Float
    y = mul binary64 a.hi a.hi

-- the end of a square that is 0, and one that is stepped down
zero_low : (p n c : ℕ) → plus zero * c + (p * n + n * p) ≤ p * p + n * n + minus zero * c
unfolding of_bits
zero_low p n c = omega (arith, square_least p n)

pick_low : (z t : Bool) (d : Float) (p n c : ℕ) → (z ≡ false → plus d * c + (p * n + n * p) ≤ p * p + n * n + minus d * c)
    → plus (cond z zero (cond t zero d)) * c + (p * n + n * p) ≤ p * p + n * n + minus (cond z zero (cond t zero d)) * c
pick_low true t d p n c h = zero_low p n c
pick_low false true d p n c h = zero_low p n c
pick_low false false d p n c h = h refl

spread_square : (xp xn up un l c : ℕ) → xp * xp + xn * xn + un * l ≤ up * l + (xp * xn + xn * xp) → xp * c * (xp * c) + xn * c * (xn * c) + un * (c * c * l) ≤ up * (c * c * l) + (xp * c * (xn * c) + xn * c * (xp * c))
spread_square xp xn up un l c h = omega (arith, mul-le-mul_right (c * c) h)

spread_square' : (xp xn up un l c : ℕ) → up * l + (xp * xn + xn * xp) ≤ xp * xp + xn * xn + un * l → up * (c * c * l) + (xp * c * (xn * c) + xn * c * (xp * c)) ≤ xp * c * (xp * c) + xn * c * (xn * c) + un * (c * c * l)
spread_square' xp xn up un l c h = omega (arith, mul-le-mul_right (c * c) h)

-- an interval that does not hold 0 has it below, or above
beside : (a : Interval) (c : ℕ) → Finite a → holds_zero a ≡ false → (minus a.lo * c ≤ plus a.lo * c) ⊎ (plus a.hi * c ≤ minus a.hi * c)
beside a c A h = elim (zero_beside a (numbered a.lo A.lo_fits A.bounded.lo_finite) (numbered a.hi A.hi_fits A.bounded.hi_finite) h) [
  | inl k ↦ let u = unit_up a.lo A.lo_fits A.bounded.lo_finite k in inl (mul-le-mul_right c (omega (arith, u)))
  | inr k ↦ let u = unit_down a.hi A.hi_fits A.bounded.hi_finite k in inr (mul-le-mul_right c (omega (arith, u)))
]

pub sqr_holds : (a : Interval) (p n c : ℕ) → Finite a → Bounded (sqr_i a) → Holds a p n c → Holds (sqr_i a) (p * p + n * n) (p * n + n * p) (c * c * 2 ^ 1074)
sqr_holds a p n c A F H =
    let al = a.lo in let ah = a.hi in
    let x = mul binary64 al al in
    let y = mul binary64 ah ah in
    let S = squared a F in
    let fl = A.lo_fits in let fh = A.hi_fits in
    let kl = A.bounded.lo_finite in let kh = A.bounded.hi_finite in
    let X = numbered x (mul-fits binary64 al al) S.low in
    let Y = numbered y (mul-fits binary64 ah ah) S.high in
    let g = greater_is X Y in
    let l = lesser_is X Y in
    let L = 2 ^ 1074 in
    let t = next_up (greater x y) in
    let e = next_down (lesser x y) in
    let hl = spread_square (plus al) (minus al) (plus t) (minus t) L c (corner_high al al (greater x y) fl fl kl kl g.0 S.low g.1.0 S.up) in
    let hh = spread_square (plus ah) (minus ah) (plus t) (minus t) L c (corner_high ah ah (greater x y) fh fh kh kh g.0 S.high g.1.1 S.up) in
    let dl = spread_square' (plus al) (minus al) (plus e) (minus e) L c (corner_low al al (lesser x y) fl fl kl kl l.0 S.low l.1.0 S.down) in
    let dh = spread_square' (plus ah) (minus ah) (plus e) (minus e) L c (corner_low ah ah (lesser x y) fh fh kh kh l.0 S.high l.1.1 S.down) in
    subst (λ (i : Interval). Holds i (p * p + n * n) (p * n + n * p) (c * c * 2 ^ 1074)) (sym S.is)
    (record {
      over = mul-pos (mul-pos H.over H.over) (pow_pos 1074);
      low = pick_low (holds_zero a) (lt e zero) e p n (c * c * L) (λ h. apart h dl dh);
      high = upper (plus al * c) (minus al * c) (plus ah * c) (minus ah * c) (plus t * (c * c * L)) (minus t * (c * c * L)) H.low H.high hl hh;
    })
  where
    upper : (lp ln hp hn tp tn : ℕ) → lp + n ≤ p + ln → p + hn ≤ hp + n → lp * lp + ln * ln + tn ≤ tp + (lp * ln + ln * lp) → hp * hp + hn * hn + tn ≤ tp + (hp * hn + hn * hp) → p * p + n * n + tn ≤ tp + (p * n + n * p)
    upper lp ln hp hn tp tn l h u v = elim (side p n) [
      | inl k ↦ omega (arith, squares_rise n p ln lp (omega arith) (omega arith), u)
      | inr k ↦ omega (arith, squares_rise p n hp hn k h, v)
    ]

    -- where 0 is not held, both ends are on one side of it
    apart : holds_zero a ≡ false → plus (next_down (lesser (mul binary64 a.lo a.lo) (mul binary64 a.hi a.hi))) * (c * c * 2 ^ 1074) + (plus a.lo * c * (minus a.lo * c) + minus a.lo * c * (plus a.lo * c)) ≤ plus a.lo * c * (plus a.lo * c) + minus a.lo * c * (minus a.lo * c) + minus (next_down (lesser (mul binary64 a.lo a.lo) (mul binary64 a.hi a.hi))) * (c * c * 2 ^ 1074)
        → plus (next_down (lesser (mul binary64 a.lo a.lo) (mul binary64 a.hi a.hi))) * (c * c * 2 ^ 1074) + (plus a.hi * c * (minus a.hi * c) + minus a.hi * c * (plus a.hi * c)) ≤ plus a.hi * c * (plus a.hi * c) + minus a.hi * c * (minus a.hi * c) + minus (next_down (lesser (mul binary64 a.lo a.lo) (mul binary64 a.hi a.hi))) * (c * c * 2 ^ 1074)
        → plus (next_down (lesser (mul binary64 a.lo a.lo) (mul binary64 a.hi a.hi))) * (c * c * 2 ^ 1074) + (p * n + n * p) ≤ p * p + n * n + minus (next_down (lesser (mul binary64 a.lo a.lo) (mul binary64 a.hi a.hi))) * (c * c * 2 ^ 1074)
    apart h u v = go (plus (next_down (lesser (mul binary64 a.lo a.lo) (mul binary64 a.hi a.hi))) * (c * c * 2 ^ 1074)) (minus (next_down (lesser (mul binary64 a.lo a.lo) (mul binary64 a.hi a.hi))) * (c * c * 2 ^ 1074))
        (plus a.lo * c) (minus a.lo * c) (plus a.hi * c) (minus a.hi * c) (beside a c A h) H.low H.high u v
      where
        go : (ep en lp ln hp hn : ℕ) → (ln ≤ lp) ⊎ (hp ≤ hn) → lp + n ≤ p + ln → p + hn ≤ hp + n → ep + (lp * ln + ln * lp) ≤ lp * lp + ln * ln + en → ep + (hp * hn + hn * hp) ≤ hp * hp + hn * hn + en → ep + (p * n + n * p) ≤ p * p + n * n + en
        go ep en lp ln hp hn (inl z) l h u v = omega (arith, squares_rise lp ln p n z l, u)
        go ep en lp ln hp hn (inr z) l h u v = omega (arith, squares_rise hn hp n p z (omega arith), v)

-- ---- reciprocals: of k / c units, c / k times 2 ^ 2148 units
pub inverse_holds : (a r : Interval) (p n c : ℕ) → Finite a → Bounded r → inverse_of a ≡ Some r → Holds a p n c → Holds r (c * (2 ^ 1074 * 2 ^ 1074)) 0 (p - n)
inverse_holds a r p n c A F e H =
    let v = inverse_is a r e in
    let L = numbered a.lo A.lo_fits A.bounded.lo_finite in
    let U = numbered a.hi A.hi_fits A.bounded.hi_finite in
    let o = holds_order a p n c A H in
    let l = (positive_place a.lo A.lo_fits v.0).1 in
    let h = le_trans l o in
    let I = inverted a.lo A.lo_fits A.bounded.lo_finite l in
    let J = inverted a.hi A.hi_fits A.bounded.hi_finite h in
    let E = ended (over a.hi) (over a.lo) (over_number U h).held (over_number L l).held (λ s t. over_falls L U l o) (subst Bounded v.1 F) in
    let d = over_down a.hi A.hi_fits A.bounded.hi_finite h E.low E.down in
    let u = over_up a.lo A.lo_fits A.bounded.lo_finite l E.high E.up in
    subst (λ (i : Interval). Holds i (c * (2 ^ 1074 * 2 ^ 1074)) 0 (p - n)) (sym (v.1 ∙ E.is))
    (record {
      over = above (plus a.lo) (minus a.lo) I.size_pos I.no_minus H.low;
      low = beneath (plus a.hi) (minus a.hi) (plus (next_down (over a.hi))) (minus (next_down (over a.hi))) (2 ^ 1074 * 2 ^ 1074) J.no_minus H.high d;
      high = beyond (plus a.lo) (minus a.lo) (plus (next_up (over a.lo))) (minus (next_up (over a.lo))) (2 ^ 1074 * 2 ^ 1074) (mul-pos (pow_pos 1074) (pow_pos 1074)) I.no_minus H.low u;
    })
  where
    scaled : (l m : ℕ) → m ≡ 0 → l * c + n ≤ p + m * c → l * c ≤ p - n
    scaled l m z i = let w : m * c ≡ 0 = ap (λ (k : ℕ). k * c) z ∙ zero-mul c in omega (arith, w, i)

    above : (l m : ℕ) → 0 < l → m ≡ 0 → l * c + n ≤ p + m * c → 0 < p - n
    above l m q z i = le_trans (mul-pos q H.over) (scaled l m z i)

    -- k is at most h * c, and at least l * c
    beneath : (h m dp dn t : ℕ) → m ≡ 0 → p + m * c ≤ h * c + n → dp * h ≤ t + dn * h → dp * (p - n) + 0 ≤ c * t + dn * (p - n)
    beneath h m dp dn t z i j = go (p - n) (let w : m * c ≡ 0 = ap (λ (k : ℕ). k * c) z ∙ zero-mul c in omega (arith, w, i))
      where
        go : (k : ℕ) → k ≤ h * c → dp * k + 0 ≤ c * t + dn * k
        go k g = elim (side dn dp) [
          | inl b ↦ omega (arith, mul-le-mul_right c j, rises k 0 (h * c) 0 (omega (arith, g)) dp dn (omega arith))
          | inr b ↦ omega (arith, mul-le-mul_right k b)
        ]

    beyond : (l m up un t : ℕ) → 0 < t → m ≡ 0 → l * c + n ≤ p + m * c → t + un * l ≤ up * l → c * t + un * (p - n) ≤ up * (p - n) + 0
    beyond l m up un t q z i j = go (p - n) (scaled l m z i)
      where
        go : (k : ℕ) → l * c ≤ k → c * t + un * k ≤ up * k + 0
        go k g = elim (side un up) [
          | inl b ↦ omega (arith, mul-le-mul_right c j, rises (l * c) 0 k 0 (omega (arith, g)) up un (omega arith))
          | inr b ↦ absurd (omega (arith, j, q, mul-le-mul_right l b))
        ]

-- ---- a certified sign is that of the number held
module _ (a : Interval) (p n c : ℕ) (A : Finite a) (H : Holds a p n c) where
  pub holds_positive : sign_of a ≡ Positive → n < p
  holds_positive e = let u = unit_up a.lo A.lo_fits A.bounded.lo_finite (positive_place a.lo A.lo_fits (positive_low a e)).1 in above (plus a.lo) (minus a.lo) u H.low
    where
      above : (l m : ℕ) → 1 + m ≤ l → l * c + n ≤ p + m * c → n < p
      above l m h k = omega (arith, mul-le-mul_right c h, H.over)

  pub holds_negative : sign_of a ≡ Negative → p < n
  holds_negative e = let u = unit_down a.hi A.hi_fits A.bounded.hi_finite (negative_place a.hi A.hi_fits (negative_high a e)).1 in below (plus a.hi) (minus a.hi) u H.high
    where
      below : (h m : ℕ) → 1 + h ≤ m → p + m * c ≤ h * c + n → p < n
      below h m i k = omega (arith, mul-le-mul_right c i, H.over)

-- ---- where the ends of a result are finite, so are those of its operands
pub add_ends : (a b : Interval) → Ordered a → Ordered b → Bounded (add_i a b) → Finite a × Finite b
add_ends a b p q F =
    let E = add_ended a b p q F in
    let u = finite_add a.lo b.lo E.low in
    let v = finite_add a.hi b.hi E.high in (
      record { lo_fits = p.lo_held; hi_fits = p.hi_held; bounded = record { lo_finite = u.0; hi_finite = v.0 } },
      record { lo_fits = q.lo_held; hi_fits = q.hi_held; bounded = record { lo_finite = u.1; hi_finite = v.1 } },
    )

pub sub_ends : (a b : Interval) → Ordered a → Ordered b → Bounded (sub_i a b) → Finite a × Finite b
sub_ends a b p q F =
    let E = add_ends a (opposite b) p (opposite_ordered b q) (subst Bounded (minus_is a b) F) in
    let G = E.1.bounded in (
      E.0,
      record { lo_fits = q.lo_held; hi_fits = q.hi_held; bounded = record { lo_finite = subst T (neg_finite b.lo) G.hi_finite; hi_finite = subst T (neg_finite b.hi) G.lo_finite } },
    )

pub mul_ends : (a b : Interval) → Bounded (mul_i a b) → Bounded a × Bounded b
unfolding mul_i
mul_ends a b F =
    let al = a.lo in let ah = a.hi in let bl = b.lo in let bh = b.hi in
    let U = hulled (mul binary64 al bl) (mul binary64 al bh) (mul binary64 ah bl) (mul binary64 ah bh) (mul-fits binary64 al bl) (mul-fits binary64 al bh) (mul-fits binary64 ah bl) (mul-fits binary64 ah bh) F in
    let u = finite_mul al bl U.p_finite in
    let v = finite_mul ah bh U.s_finite in
    (record { lo_finite = u.0; hi_finite = v.0 }, record { lo_finite = u.1; hi_finite = v.1 })

pub sqr_ends : (a : Interval) → Bounded (sqr_i a) → Bounded a
sqr_ends a F = let S = squared a F in record { lo_finite = (finite_mul a.lo a.lo S.low).0; hi_finite = (finite_mul a.hi a.hi S.high).0 }

pub gap_ends : (x o : Float) → T (fits binary64 x) → T (fits binary64 o) → Bounded (sub_i (point_i x) (point_i o)) → T (finite x) × T (finite o)
unfolding sub_i sub
gap_ends x o f g F =
    let d = add binary64 x (neg o) in
    let E = ended d d (add-fits binary64 x (neg o)) (add-fits binary64 x (neg o)) (λ r s. le_refl (place d)) F in
    let u = finite_add x (neg o) E.low in
    (u.0, subst T (neg_finite o) u.1)

-- the ends of a step are values of the format
outward_fit : (l h : Float) → T (fits binary64 l) → T (fits binary64 h) → T (fits binary64 (outward l h).lo) × T (fits binary64 (outward l h).hi)
outward_fit l h f g =
    by_step (λ (i : Interval). T (fits binary64 i.lo) × T (fits binary64 i.hi)) l h (λ n. ((infinite true).held, (infinite false).held))
    (λ p q. ((down_number {x = l} (record { held = f; real = p })).held, (up_number {x = h} (record { held = g; real = q })).held))

-- those of a sum and of a difference, whatever the operands are
pub add_fit : (a b : Interval) → T (fits binary64 (add_i a b).lo) × T (fits binary64 (add_i a b).hi)
unfolding add_i
add_fit a b = outward_fit (add binary64 a.lo b.lo) (add binary64 a.hi b.hi) (add-fits binary64 a.lo b.lo) (add-fits binary64 a.hi b.hi)

pub sub_fit : (a b : Interval) → T (fits binary64 (sub_i a b).lo) × T (fits binary64 (sub_i a b).hi)
unfolding sub_i
sub_fit a b = outward_fit (sub binary64 a.lo b.hi) (sub binary64 a.hi b.lo) (sub-fits binary64 a.lo b.hi) (sub-fits binary64 a.hi b.lo)
