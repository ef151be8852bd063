-- Two points are apart where one coordinate differs by enough: the square of such a difference alone is certainly above that of local, and the other squares are not below zero. Assumes nothing.
use Rattle.std.specs.Prelude.{Ok}
use mathlib.Core.Path.{◌≡◌, refl, sym, ap, ◌∙◌, subst}
use mathlib.Core.Logic.{◌⊎◌, inl, inr}
use mathlib.Core.Bool.{Bool, true, false, not, ◌&&◌, ◌||◌, cond}
use Prim.Native.Nat.{ℕ, ◌≤◌, ◌<◌}
use native.Mathlib.Nat.{le_trans, le_of_lt}
use native.Mathlib.Omega.{arith}
use lib.Dec.{T}
use lib.Ieee.{Float, nan, binary64, is_nan, lt, le, neg, add, sub, mul}
use lib.Ieee.Bits.{is_true, is_false}
use lib.Ieee.Fits.{add-fits, neg-fits, sub-fits, and_l, and_r}
use Rattle.float.specs.Float.{sign_bit, next_up, next_down}
use Rattle.float.proofs.Places.{place, Number, zero_number, zero_place, positive_place, place_most, le_at, le_of, lt_of, le_numbers, real_neg, neg_twice, neg_number, neg_place, up_number, up_moves, down_number, down_moves}
use Rattle.float.proofs.Laws.{Held, infinite, down_mono}
use Rattle.float.proofs.Sums.{add_left, add_right}
use Rattle.float.proofs.Products.{mul_both, product, square_real, square_rises, square_falls}
use Rattle.interval.specs.declared.Interval.{Interval}
use Rattle.interval.specs.Ends.{zero, point_i, sub_i, holds_zero, sqr_i}
use Rattle.interval.proofs.Laws.{Ordered, stepped, sqr_ordered, low_positive, high_negative, positive_apart, negative_apart}
use Rattle.interval.proofs.Squares.{square_low, square_floor}
use Rattle.interval.proofs.Inclusion.{Inside, inside_self, add_inside, sub_inside}
use Rattle.space.specs.declared.Point3.{Point3}
use Rattle.space.specs.declared.Precision.{Precision}
use Rattle.space.specs.declared.Closeness.TheVariants.{Apart}
use Rattle.space.specs.Near.{closeness_of, gap_i, near_of}
use Rattle.space.specs.Far.{size_of, floor_of, from_on, is_more, is_reach, reach_of, is_far}

-- ---- the square of a difference
down_neg : (x : Float) → next_down (neg x) ≡ neg (next_up x)
unfolding next_down
down_neg x = ap (λ (z : Float). neg (next_up z)) (neg_twice x)

module _ (x y : Float) (a : Number (sub binary64 x y)) where
  abbrev d : Float
  d = sub binary64 x y

  abbrev step : Interval
  step = record { lo = next_down (sub binary64 x y); hi = next_up (sub binary64 x y) }

  gap_is : gap_i x y ≡ sqr_i step
  unfolding gap_i sub_i
  gap_is = ap sqr_i (stepped d d (is_false (is_nan d) a.real) (is_false (is_nan d) a.real))

  gap_low : place zero ≤ place (gap_i x y).lo
  gap_low = subst (λ (i : Interval). place zero ≤ place i.lo) (sym gap_is) (square_low step (down_number a) (up_number a))

  gap_floor : (m : Float) → Number m → holds_zero step ≡ false → place (mul binary64 m m) ≤ place (mul binary64 step.lo step.lo) → place (mul binary64 m m) ≤ place (mul binary64 step.hi step.hi) → place (next_down (mul binary64 m m)) ≤ place (gap_i x y).lo
  gap_floor m c z h k = subst (λ (i : Interval). place (next_down (mul binary64 m m)) ≤ place i.lo) (sym gap_is) (square_floor step (down_number a) (up_number a) z (product m m (square_real m c.real)) h k)

  -- where its size is g or more
  module _ (g : Float) (G : Number g) (p : sign_bit < place (next_down g)) where
    above : place g ≤ place d → place (floor_of g) ≤ place (gap_i x y).lo
    above h =
        let M = down_number G in
        let L = down_number a in
        let i = down_mono G a h in
        let j = le_trans (down_moves a) (up_moves a) in
        let e = zero_place in
        gap_floor (next_down g) M (positive_apart step L.held (low_positive step (lt_of zero_number L (omega arith)))) (square_rises M L (le_of_lt p) i) (square_rises M (up_number a) (le_of_lt p) (le_trans i j))

    below : place g ≤ place (neg d) → place (floor_of g) ≤ place (gap_i x y).lo
    below h =
        let M = down_number G in
        let L = down_number a in
        let H = up_number a in
        let i = down_mono G (neg_number a) h in
        let u = ap place (down_neg d) in
        let j = le_trans (down_moves a) (up_moves a) in
        let v = neg_place H in
        let w = neg_place M in
        let e = zero_place in
        let b = ap place (mul_both (next_down g) (next_down g)) in
        gap_floor (next_down g) M
        (negative_apart step H.held (high_negative step (record { lo_held = L.held; hi_held = H.held; order = le_of L H j }) (lt_of H zero_number (omega arith))))
        (subst (λ (n : ℕ). n ≤ place (mul binary64 step.lo step.lo)) b (square_falls (neg_number M) L (omega arith) (omega arith))) (subst (λ (n : ℕ). n ≤ place (mul binary64 step.hi step.hi)) b (square_falls (neg_number M) H (omega arith) (omega arith)))

    gap_far : T (le g (size_of d)) → place (floor_of g) ≤ place (gap_i x y).lo
    gap_far h = go (lt d (neg d)) h
      where
        go : (t : Bool) → T (le g (cond t (neg d) d)) → place (floor_of g) ≤ place (gap_i x y).lo
        go true h = below (le_at G (neg_number a) h)
        go false h = above (le_at G a h)

-- ---- three squares
gap_ordered : (x y : Float) → Ordered (gap_i x y)
unfolding gap_i
gap_ordered x y = sqr_ordered (sub_i (point_i x) (point_i y))

from_inside : (s : Interval) → Ordered s → {f : Float} → Number f → place f ≤ place s.lo → Inside s (from_on f)
from_inside s o a h =
    let n = le_numbers s.lo s.hi o.lo_held o.hi_held o.order in
    record { low = n.0; high = n.1; rise = le_at n.0 n.1 o.order; wide_low = a; wide_high = infinite false; under = h; over = place_most n.1 }

module _ (p : Precision) (a b : Point3) (u v w : Float) (A : Number u) (B : Number v) (C : Number w) (F : place u ≤ place (gap_i a.x b.x).lo) (G : place v ≤ place (gap_i a.y b.y).lo) (H : place w ≤ place (gap_i a.z b.z).lo) where
  more_apart : is_more p u v w ≡ true → near_of p a b ≡ Ok Apart
  unfolding is_more near_of closeness_of
  more_apart e =
      let X = from_inside (gap_i a.x b.x) (gap_ordered a.x b.x) A F in
      let Y = from_inside (gap_i a.y b.y) (gap_ordered a.y b.y) B G in
      let Z = from_inside (gap_i a.z b.z) (gap_ordered a.z b.z) C H in
      let I = sub_inside (add_inside (add_inside X Y) Z) (inside_self (sqr_i (point_i p.local)) (sqr_ordered (point_i p.local))) in
      let t = (positive_place _ I.wide_low.held (subst T (sym e) tt)).1 in
      let k = I.under in
      let z = zero_place in
      ap closeness_of (low_positive _ (lt_of zero_number I.low (omega arith)))

-- ---- the law
size_real : (x : Float) → T (not (is_nan (size_of x))) → T (not (is_nan x))
size_real x h = go (lt x (neg x)) h
  where
    go : (t : Bool) → T (not (is_nan (cond t (neg x) x))) → T (not (is_nan x))
    go true h = real_neg x h
    go false h = h

size_held : (x : Float) → Held x → Held (size_of x)
size_held x f = go (lt x (neg x))
  where
    go : (t : Bool) → Held (cond t (neg x) x)
    go true = neg-fits binary64 x f
    go false = f

or_is : (a b : Bool) → T (a || b) → T a ⊎ T b
or_is true b t = inl tt
or_is false b t = inr t

module _ (p : Precision) (g : Float) (a b : Point3) (f : Held g) (R : T (is_reach p g)) where
  abbrev dx : Float
  dx = sub binary64 a.x b.x

  abbrev dy : Float
  dy = sub binary64 a.y b.y

  abbrev dz : Float
  dz = sub binary64 a.z b.z

  abbrev number : (x y : Float) → T (not (is_nan (sub binary64 x y))) → Number (sub binary64 x y)
  number x y r = record { held = sub-fits binary64 x y; real = r }

  reach_step : T (lt zero (next_down g))
  unfolding is_reach
  reach_step = and_l (lt zero (next_down g)) _ R

  reach_x : T (is_more p (floor_of g) zero zero)
  unfolding is_reach
  reach_x = and_l (is_more p (floor_of g) zero zero) _ (and_r (lt zero (next_down g)) _ R)

  reach_y : T (is_more p zero (floor_of g) zero)
  unfolding is_reach
  reach_y = and_l (is_more p zero (floor_of g) zero) _ (and_r (is_more p (floor_of g) zero zero) _ (and_r (lt zero (next_down g)) _ R))

  reach_z : T (is_more p zero zero (floor_of g))
  unfolding is_reach
  reach_z = and_r (is_more p zero (floor_of g) zero) _ (and_r (is_more p (floor_of g) zero zero) _ (and_r (lt zero (next_down g)) _ R))

  module _ (G : Number g) where
    floor_number : Number (floor_of g)
    floor_number = down_number (product (next_down g) (next_down g) (square_real (next_down g) (down_number G).real))

    step_above : sign_bit < place (next_down g)
    step_above = (positive_place (next_down g) (down_number G).held reach_step).1

    by_x : T (not (is_nan dx)) → T (not (is_nan dy)) → T (not (is_nan dz)) → T (le g (size_of dx)) → near_of p a b ≡ Ok Apart
    by_x i j k h =
        more_apart p a b (floor_of g) zero zero floor_number zero_number zero_number (gap_far a.x b.x (number a.x b.x i) g G step_above h) (gap_low a.y b.y (number a.y b.y j)) (gap_low a.z b.z (number a.z b.z k))
        (is_true (is_more p (floor_of g) zero zero) reach_x)

    by_y : T (not (is_nan dx)) → T (not (is_nan dy)) → T (not (is_nan dz)) → T (le g (size_of dy)) → near_of p a b ≡ Ok Apart
    by_y i j k h =
        more_apart p a b zero (floor_of g) zero zero_number floor_number zero_number (gap_low a.x b.x (number a.x b.x i)) (gap_far a.y b.y (number a.y b.y j) g G step_above h) (gap_low a.z b.z (number a.z b.z k))
        (is_true (is_more p zero (floor_of g) zero) reach_y)

    by_z : T (not (is_nan dx)) → T (not (is_nan dy)) → T (not (is_nan dz)) → T (le g (size_of dz)) → near_of p a b ≡ Ok Apart
    by_z i j k h =
        more_apart p a b zero zero (floor_of g) zero_number zero_number floor_number (gap_low a.x b.x (number a.x b.x i)) (gap_low a.y b.y (number a.y b.y j)) (gap_far a.z b.z (number a.z b.z k) g G step_above h)
        (is_true (is_more p zero zero (floor_of g)) reach_z)

  sized : (x : Float) → Held x → T (le g (size_of x)) → Number g × T (not (is_nan x))
  sized x h l = let n = le_numbers g (size_of x) f (size_held x h) l in (n.0, size_real x n.1.real)

  pub far_apart : T (is_far g dx dy dz) → near_of p a b ≡ Ok Apart
  unfolding is_far
  far_apart h = go (le g (size_of dx)) (λ t. t) h
    where
      rest : T ((le g (size_of dy) || le g (size_of dz)) && not (is_nan (add binary64 (add binary64 dx dy) dz))) → near_of p a b ≡ Ok Apart
      rest h =
          let r = and_r (le g (size_of dy) || le g (size_of dz)) _ h in
          let s = add_left (add binary64 dx dy) dz r in
          let k = add_right (add binary64 dx dy) dz r in
          elim (or_is (le g (size_of dy)) (le g (size_of dz)) (and_l (le g (size_of dy) || le g (size_of dz)) _ h)) [
            | inl l ↦ by_y (sized dy (sub-fits binary64 a.y b.y) l).0 (add_left dx dy s) (add_right dx dy s) k l
            | inr l ↦ by_z (sized dz (sub-fits binary64 a.z b.z) l).0 (add_left dx dy s) (add_right dx dy s) k l
          ]

      go : (t : Bool) → (T t → T (le g (size_of dx))) → T (cond t (not (is_nan (add binary64 dy dz))) ((le g (size_of dy) || le g (size_of dz)) && not (is_nan (add binary64 (add binary64 dx dy) dz)))) → near_of p a b ≡ Ok Apart
      go true l h = let n = sized dx (sub-fits binary64 a.x b.x) (l tt) in by_x n.0 n.1 (add_left dy dz h) (add_right dy dz h) (l tt)
      go false l h = rest h

-- in the code's words
nan_far : (x y z : Float) → is_far nan x y z ≡ false
unfolding is_far le
nan_far x y z = refl

pub reach_apart : (p : Precision) (g : Float) (a b : Point3) → g ≡ reach_of p → is_far g (sub binary64 a.x b.x) (sub binary64 a.y b.y) (sub binary64 a.z b.z) ≡ true → near_of p a b ≡ Ok Apart
unfolding reach_of
reach_apart p g a b e h = go (is_reach p (add binary64 p.local p.local)) (λ t. t) e
  where
    go : (t : Bool) → (T t → T (is_reach p (add binary64 p.local p.local))) → g ≡ cond t (add binary64 p.local p.local) nan → near_of p a b ≡ Ok Apart
    go true r e = far_apart p g a b (subst Held (sym e) (add-fits binary64 p.local p.local)) (subst (λ (z : Float). T (is_reach p z)) (sym e) (r tt)) (subst T (sym h) tt)
    go false r e = absurd (let z : ◌≡◌ {A = ℕ} 0 1 = ap (λ (b : Bool). cond b 1 0) (sym (ap (λ (v : Float). is_far v (sub binary64 a.x b.x) (sub binary64 a.y b.y) (sub binary64 a.z b.z)) e ∙ nan_far _ _ _) ∙ h) in omega arith)

pub reach_yes : (p : Precision) (v : Bool) → v ≡ is_reach p (add binary64 p.local p.local) → v ≡ true → add binary64 p.local p.local ≡ reach_of p
unfolding reach_of
reach_yes p v e h = sym (ap (λ (b : Bool). cond b (add binary64 p.local p.local) nan) (sym e ∙ h))

pub reach_no : (p : Precision) (v : Bool) → v ≡ is_reach p (add binary64 p.local p.local) → v ≡ false → nan ≡ reach_of p
unfolding reach_of
reach_no p v e h = sym (ap (λ (b : Bool). cond b (add binary64 p.local p.local) nan) (sym e ∙ h))

module _ (g x y z : Float) where
  pub far_first : (s : Float) (w : Bool) → s ≡ size_of x → le g s ≡ true → w ≡ is_nan (add binary64 y z) → not w ≡ is_far g x y z
  unfolding is_far
  far_first s w e h f =
      ap not f ∙ sym (ap (λ (b : Bool). cond b (not (is_nan (add binary64 y z))) ((le g (size_of y) || le g (size_of z)) && not (is_nan (add binary64 (add binary64 x y) z)))) (ap (le g) (sym e) ∙ h))

  pub far_other : (s u v : Float) (w : Bool) → s ≡ size_of x → le g s ≡ false → u ≡ size_of y → v ≡ size_of z → w ≡ is_nan (add binary64 (add binary64 x y) z) → ((le g u || le g v) && not w) ≡ is_far g x y z
  unfolding is_far
  far_other s u v w e h i j f =
      ap (λ (n : Float). (le g n || le g v) && not w) i ∙ ap (λ (n : Float). (le g (size_of y) || le g n) && not w) j ∙ ap (λ (b : Bool). (le g (size_of y) || le g (size_of z)) && not b) f
      ∙ sym (ap (λ (b : Bool). cond b (not (is_nan (add binary64 y z))) ((le g (size_of y) || le g (size_of z)) && not (is_nan (add binary64 (add binary64 x y) z)))) (ap (le g) (sym e) ∙ h))
