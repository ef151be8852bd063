-- Intervals that hold an exact number once their own two ends are finite: all ends on the way are finite then, too, so that
-- of a whole computation only the last two ends are asked. Assumes nothing.
use Rattle.std.specs.Prelude.{◌≡◌, ℕ, ◌*◌, ◌^◌, T, Float}
use Rattle.std.proofs.Common.{subst, le_refl}
use Rattle.std.specs.Float.{binary64}
use Rattle.std.specs.Float.Ieee.{sub}
use Rattle.std.specs.Float.Ieee.Fits.{sub-fits}
use Rattle.float.specs.Float.{finite}
use Rattle.float.specs.Exact.{plus, minus}
use Rattle.float.proofs.Laws.{Held}
use Rattle.float.proofs.Places.{place, le_of}
use Rattle.interval.specs.declared.Interval.{Interval}
use Rattle.interval.specs.Ends.{point_i, add_i, sub_i, mul_i, sqr_i}
use Rattle.interval.specs.Exact.{Holds, Bounded, Finite}
use Rattle.interval.proofs.Laws.{Ordered, outward_ordered, mul_ordered, add_ordered, sub_ordered, sqr_ordered}
use Rattle.interval.proofs.Sound.{point_holds, add_holds, sub_holds, mul_holds, sqr_holds, add_ends, sub_ends, mul_ends, sqr_ends, gap_ends}
use Rattle.tube.specs.Whole.{Whole, units, sum, difference, product}

-- the ends of a are values of the format, and once they are finite a holds the number d / c units of 2 ^ -1074
pub record Sure (a : Interval) (d : Whole) (c : ℕ) : Type 0 where
  pub lo_held : Held a.lo
  pub hi_held : Held a.hi
  pub holds : Bounded a → Holds a d.more d.less c

pub sure_finite : {a : Interval} {d : Whole} {c : ℕ} → Sure a d c → Bounded a → Finite a
sure_finite S B = record { lo_fits = S.lo_held; hi_fits = S.hi_held; bounded = B }

-- the same number, added up in another order
pub sure_as : {a : Interval} {c : ℕ} (d e : Whole) → d.more ≡ e.more → d.less ≡ e.less → Sure a d c → Sure a e c
sure_as {a} {c} d e p q S = record {
  lo_held = S.lo_held;
  hi_held = S.hi_held;
  holds = λ B. subst (λ (n : ℕ). Holds a e.more n c) q (subst (λ (m : ℕ). Holds a m d.less c) p (S.holds B));
}

-- ---- numbers, and their differences
pub point_sure : (x : Float) → Held x → Sure (point_i x) (units x) 1
point_sure x f = record { lo_held = f; hi_held = f; holds = λ B. point_holds x }

point_finite : (x : Float) → Held x → T (finite x) → Finite (point_i x)
point_finite x f k = record { lo_fits = f; hi_fits = f; bounded = record { lo_finite = k; hi_finite = k } }

gap_ordered : (x o : Float) → Ordered (sub_i (point_i x) (point_i o))
unfolding sub_i
gap_ordered x o =
    let d = sub binary64 x o in
    let f = sub-fits binary64 x o in
    outward_ordered d d f f (λ i j. le_of {x = d} {y = d} (record { held = f; real = i }) (record { held = f; real = j }) (le_refl (place d)))

pub gap_sure : (x o : Float) → Held x → Held o → Sure (sub_i (point_i x) (point_i o)) (difference (units x) (units o)) 1
gap_sure x o f g = record {
  lo_held = (gap_ordered x o).lo_held;
  hi_held = (gap_ordered x o).hi_held;
  holds = λ B.
      let k = gap_ends x o f g B in
      sub_holds (point_i x) (point_i o) (plus x) (minus x) (plus o) (minus o) 1 (point_finite x f k.0) (point_finite o g k.1) B
      (point_holds x) (point_holds o);
}

-- ---- sums, differences, products and squares of such intervals
module _ (a b : Interval) (d e : Whole) where
  pub add_sure : (c : ℕ) → Ordered a → Ordered b → Sure a d c → Sure b e c → Sure (add_i a b) (sum d e) c
  add_sure c p q S R = record {
    lo_held = (add_ordered a b p q).lo_held;
    hi_held = (add_ordered a b p q).hi_held;
    holds = λ B.
        let E = add_ends a b p q B in
        add_holds a b d.more d.less e.more e.less c E.0 E.1 B (S.holds E.0.bounded) (R.holds E.1.bounded);
  }

  pub sub_sure : (c : ℕ) → Ordered a → Ordered b → Sure a d c → Sure b e c → Sure (sub_i a b) (difference d e) c
  sub_sure c p q S R = record {
    lo_held = (sub_ordered a b p q).lo_held;
    hi_held = (sub_ordered a b p q).hi_held;
    holds = λ B.
        let E = sub_ends a b p q B in
        sub_holds a b d.more d.less e.more e.less c E.0 E.1 B (S.holds E.0.bounded) (R.holds E.1.bounded);
  }

  pub mul_sure : (c k : ℕ) → Sure a d c → Sure b e k → Sure (mul_i a b) (product d e) (c * k * 2 ^ 1074)
  mul_sure c k S R = record {
    lo_held = (mul_ordered a b).lo_held;
    hi_held = (mul_ordered a b).hi_held;
    holds = λ B.
        let E = mul_ends a b B in
        mul_holds a b d.more d.less c e.more e.less k (sure_finite S E.0) (sure_finite R E.1) B
        (S.holds E.0) (R.holds E.1);
  }

pub sqr_sure : (a : Interval) (d : Whole) (c : ℕ) → Sure a d c → Sure (sqr_i a) (product d d) (c * c * 2 ^ 1074)
sqr_sure a d c S = record {
  lo_held = (sqr_ordered a).lo_held;
  hi_held = (sqr_ordered a).hi_held;
  holds = λ B. let E = sqr_ends a B in sqr_holds a d.more d.less c (sure_finite S E) B (S.holds E);
}
