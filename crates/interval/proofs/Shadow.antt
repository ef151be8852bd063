-- The shadow law: where x lies in a and y in b, the rounded sum, difference or product of x and y, unless it is a NaN, lies in the stepped interval of the same step, infinities included; so does a square, a reciprocal and a dot. Assumes nothing.
use Rattle.std.specs.Prelude.{Some}
use mathlib.Core.Path.{◌≡◌, refl, sym, subst}
use mathlib.Core.Logic.{inl, inr}
use mathlib.Core.Bool.{Bool, true, false, not}
use mathlib.Core.List.{List}
use Prim.Native.Nat.{ℕ, ◌≤◌}
use native.Mathlib.Nat.{le_refl, le_trans, le_of_lt}
use native.Mathlib.Omega.{arith}
use lib.Dec.{T}
use lib.Ieee.{Float, binary64, is_nan, le, neg, add, sub, mul}
use lib.Ieee.Fits.{and_i, and_l, and_r, add-fits, sub-fits}
use Rattle.float.specs.Float.{sign_bit, next_down, lesser, greater}
use Rattle.float.proofs.Places.{place, side, Number, zero_number, zero_place, positive_place, place_least, place_most, le_at, le_of, le_numbers, neg_number, neg_place, up_number, up_moves, down_number, down_moves}
use Rattle.float.proofs.Laws.{Held, infinite, lt_not, lt_le, lesser_is, greater_is, greater_under}
use Rattle.float.proofs.Sums.{add_mono, add_left, add_right}
use Rattle.float.proofs.Products.{Real, Spans, product, mul_least, mul_greatest, square_real, square_above, square_rises, square_falls}
use Rattle.float.proofs.Quotients.{over, over_number, over_falls}
use Rattle.interval.specs.declared.Interval.{Interval}
use Rattle.interval.specs.declared.Sign.TheVariants.{Positive}
use Rattle.interval.specs.Ends.{zero, whole, point_i, outward, add_i, sub_i, mul_i, contains, holds_zero, sqr_i, sign_of, inverse_of}
use Rattle.interval.specs.Box.{at, dot_i}
use Rattle.interval.proofs.Laws.{by_step, by_hull, square_ends, low_square, high_square, square_by, opposite, minus_is, four, zero_beside, inverse_is, above_tolerance}

-- ---- x lies in a, by places
pub record In (a : Interval) (x : Float) : Type 0 where
  pub low : Number a.lo
  pub it : Number x
  pub high : Number a.hi
  pub from : place a.lo ≤ place x
  pub to : place x ≤ place a.hi

-- which is what the definition says, of values of the format
pub contains_in : (a : Interval) (x : Float) → Held a.lo → Held x → Held a.hi → T (contains a x) → In a x
contains_in a x f g h t =
    let p = and_l (le a.lo x) (le x a.hi) t in
    let q = and_r (le a.lo x) (le x a.hi) t in
    let l = le_numbers a.lo x f g p in
    let u = le_numbers x a.hi g h q in
    record { low = l.0; it = l.1; high = u.1; from = le_at l.0 l.1 p; to = le_at u.0 u.1 q }

pub in_contains : (a : Interval) (x : Float) → In a x → T (contains a x)
in_contains a x i = and_i (le a.lo x) (le x a.hi) (le_of i.low i.it i.from) (le_of i.it i.high i.to)

pub in_whole : {x : Float} → Number x → In whole x
in_whole a = record { low = infinite true; it = a; high = infinite false; from = place_least a; to = place_most a }

-- ---- the step outward
pub outward_in : (l h : Float) {x : Float} → Number x → Held l → Held h → (T (not (is_nan l)) → T (not (is_nan h)) → (place l ≤ place x) × (place x ≤ place h)) → In (outward l h) x
outward_in l h {x} a f g o =
    by_step (λ (i : Interval). In i x) l h (λ n. in_whole a)
    (λ p q.
    let L : Number l = record { held = f; real = p } in
    let H : Number h = record { held = g; real = q } in
    let k = o p q in
    record { low = down_number L; it = a; high = up_number H; from = le_trans (down_moves L) k.0; to = le_trans k.1 (up_moves H) })

-- ---- sums and differences
pub add_in : {a b : Interval} {x y : Float} → In a x → In b y → T (not (is_nan (add binary64 x y))) → In (add_i a b) (add binary64 x y)
unfolding add_i
add_in {a} {b} {x} {y} i j r =
    let z : Number (add binary64 x y) = record { held = add-fits binary64 x y; real = r } in
    outward_in (add binary64 a.lo b.lo) (add binary64 a.hi b.hi) z (add-fits binary64 a.lo b.lo) (add-fits binary64 a.hi b.hi)
    (λ s t. (
      le_at (record { held = add-fits binary64 a.lo b.lo; real = s }) z (add_mono a.lo x b.lo y i.low.held i.it.held j.low.held j.it.held s r (le_of i.low i.it i.from) (le_of j.low j.it j.from)),
      le_at z (record { held = add-fits binary64 a.hi b.hi; real = t }) (add_mono x a.hi y b.hi i.it.held i.high.held j.it.held j.high.held r t (le_of i.it i.high i.to) (le_of j.it j.high j.to)),
    ))

opposite_in : {b : Interval} {y : Float} → In b y → In (opposite b) (neg y)
opposite_in j =
    let u = neg_place j.low in
    let v = neg_place j.it in
    let w = neg_place j.high in
    let p = j.from in
    let q = j.to in
    record { low = neg_number j.high; it = neg_number j.it; high = neg_number j.low; from = omega arith; to = omega arith }

pub sub_in : {a b : Interval} {x y : Float} → In a x → In b y → T (not (is_nan (sub binary64 x y))) → In (sub_i a b) (sub binary64 x y)
unfolding sub
sub_in {a} {b} {x} {y} i j r = subst (λ (z : Interval). In z (add binary64 x (neg y))) (sym (minus_is a b)) (add_in i (opposite_in j) r)

-- ---- products
pub mul_in : {a b : Interval} {x y : Float} → In a x → In b y → Real x y → In (mul_i a b) (mul binary64 x y)
unfolding mul_i
mul_in {a} {b} {x} {y} i j r =
    by_hull (λ (z : Interval). In z (mul binary64 x y)) (mul binary64 a.lo b.lo) (mul binary64 a.lo b.hi) (mul binary64 a.hi b.lo) (mul binary64 a.hi b.hi) (λ n. in_whole (product x y r))
    (λ p q s t.
    let F = four (product a.lo b.lo p) (product a.lo b.hi q) (product a.hi b.lo s) (product a.hi b.hi t) in
    let S = boxed p q s t in
    outward_in _ _ (product x y r) F.least.held F.most.held (λ u v. (mul_least S (record { lu = F.lp; lv = F.lq; hu = F.lr; hv = F.ls }), mul_greatest S (record { lu = F.mp; lv = F.mq; hu = F.mr; hv = F.ms }))))
  where
    boxed : Real a.lo b.lo → Real a.lo b.hi → Real a.hi b.lo → Real a.hi b.hi → Spans a.lo a.hi b.lo b.hi x y
    boxed p q s t = record {
      l_is = i.low;
      h_is = i.high;
      u_is = j.low;
      v_is = j.high;
      x_is = i.it;
      y_is = j.it;
      left = i.from;
      right = i.to;
      first = j.from;
      last = j.to;
      lu = p;
      lv = q;
      hu = s;
      hv = t;
      xy = r;
    }

-- ---- squares
module _ {a : Interval} {x : Float} (i : In a x) where
  abbrev p : Float
  p = mul binary64 a.lo a.lo

  abbrev q : Float
  q = mul binary64 a.hi a.hi

  -- not above the greater of the squares of the ends, and where zero is not held not below the lesser
  pub square_most : place (mul binary64 x x) ≤ place (greater p q)
  square_most =
      let g = (greater_is (low_square a i.low i.high) (high_square a i.low i.high)).1 in
      elim (side (place x) sign_bit) [
        | inl l ↦ le_trans (square_falls i.it i.low (le_of_lt l) i.from) g.0
        | inr l ↦ le_trans (square_rises i.it i.high l i.to) g.1
      ]

  pub square_least : holds_zero a ≡ false → place (lesser p q) ≤ place (mul binary64 x x)
  square_least e =
      let l = (lesser_is (low_square a i.low i.high) (high_square a i.low i.high)).1 in
      elim (zero_beside a i.low i.high e) [
        | inl h ↦ le_trans l.0 (square_rises i.low i.it (le_of_lt h) i.from)
        | inr h ↦ le_trans l.1 (square_falls i.high i.it (le_of_lt h) i.to)
      ]

  pub sqr_in : In (sqr_i a) (mul binary64 x x)
  sqr_in = square_by a i.low i.high (λ (z : Interval). In z (mul binary64 x x)) (stepped_square (holds_zero a) refl)
    where
      it_square : Number (mul binary64 x x)
      it_square = product x x (square_real x i.it.real)

      above_zero : place zero ≤ place (mul binary64 x x)
      above_zero = subst (λ (n : ℕ). n ≤ place (mul binary64 x x)) (sym zero_place) (square_above x i.it.real)

      stepped_square : (z : Bool) → holds_zero a ≡ z → In (square_ends z p q) (mul binary64 x x)
      stepped_square true e = let G = (greater_is (low_square a i.low i.high) (high_square a i.low i.high)).0 in record { low = zero_number; it = it_square; high = up_number G; from = above_zero; to = le_trans square_most (up_moves G) }
      stepped_square false e =
          let G = (greater_is (low_square a i.low i.high) (high_square a i.low i.high)).0 in
          let L = (lesser_is (low_square a i.low i.high) (high_square a i.low i.high)).0 in
          record {
            low = (greater_is (down_number L) zero_number).0;
            it = it_square;
            high = up_number G;
            from = greater_under (next_down (lesser p q)) zero (place (mul binary64 x x)) (le_trans (down_moves L) (square_least e)) above_zero;
            to = le_trans square_most (up_moves G);
          }

-- ---- reciprocals
pub inverse_in : {a r : Interval} {x : Float} → inverse_of a ≡ Some r → In a x → In r (over x)
inverse_in {a} {r} {x} e i =
    let v = inverse_is a r e in
    let l = (positive_place a.lo i.low.held v.0).1 in
    let h = le_trans l i.from in
    let m = le_trans h i.to in
    subst (λ (z : Interval). In z (over x)) (sym v.1)
    (outward_in (over a.hi) (over a.lo) (over_number i.it h) (over_number i.high m).held (over_number i.low l).held (λ s t. (over_falls i.it i.high h i.to, over_falls i.low i.it l i.from)))

-- ---- a dot: each product, each sum
abbrev dots : Float → Float → Float → Float → Float → Float → Float
dots x y z u v w = add binary64 (add binary64 (mul binary64 x u) (mul binary64 y v)) (mul binary64 z w)

pub dot_in : (a b : List Interval) {x y z u v w : Float} → In (at a 0) x → In (at a 1) y → In (at a 2) z → In (at b 0) u → In (at b 1) v → In (at b 2) w → T (not (is_nan (dots x y z u v w))) → In (dot_i a b) (dots x y z u v w)
unfolding dot_i
dot_in a b {x} {y} {z} {u} {v} {w} p q s i j k r =
    let m = add_left (add binary64 (mul binary64 x u) (mul binary64 y v)) (mul binary64 z w) r in
    add_in (add_in (mul_in p i (add_left (mul binary64 x u) (mul binary64 y v) m)) (mul_in q j (add_right (mul binary64 x u) (mul binary64 y v) m)) m)
    (mul_in s k (add_right (add binary64 (mul binary64 x u) (mul binary64 y v)) (mul binary64 z w) r)) r

-- ---- what a shadow says of a sign: where x in a is not above t, a - t is not certainly positive
pub not_above : {a : Interval} {x : Float} (t : Float) → In a x → Held t → T (le x t) → sign_of (sub_i a (point_i t)) ≡ Positive → ⊥
not_above {a} {x} t c h l e = lt_not t x h c.it.held (lt_le t a.lo x h c.low.held c.it.held (above_tolerance a t c.low.held h e) (le_of c.low c.it c.from)) l

-- and where the low end of s less x is not, neither is s - a - t
outward_low : (l h : Float) {x : Float} → Number x → Held l → (T (not (is_nan l)) → place l ≤ place x) → Number (outward l h).lo × (place (outward l h).lo ≤ place x)
outward_low l h {x} a f o =
    by_step (λ (i : Interval). Number i.lo × (place i.lo ≤ place x)) l h (λ n. (infinite true, place_least a))
    (λ p q. let A : Number l = record { held = f; real = p } in (down_number A, le_trans (down_moves A) (o p)))

sub_low : (s w : Interval) {x : Float} → In w x → (v : Number (sub binary64 s.lo x)) → Held s.lo → Number (sub_i s w).lo × (place (sub_i s w).lo ≤ place (sub binary64 s.lo x))
unfolding sub_i sub
sub_low s w {x} c v f =
    outward_low (add binary64 s.lo (neg w.hi)) (add binary64 s.hi (neg w.lo)) v (add-fits binary64 s.lo (neg w.hi))
    (λ r.
    let N = opposite_in c in
    let S : Number s.lo = record { held = f; real = add_left s.lo (neg x) v.real } in
    le_at (record { held = add-fits binary64 s.lo (neg w.hi); real = r }) v
    (add_mono s.lo s.lo (neg w.hi) (neg x) f f N.low.held N.it.held r v.real (le_of S S (le_refl (place s.lo))) (le_of N.low N.it N.from)))

pub sub_not_above : (s w : Interval) {x : Float} (t : Float) → In w x → Held s.lo → Held t → T (le (sub binary64 s.lo x) t) → sign_of (sub_i (sub_i s w) (point_i t)) ≡ Positive → ⊥
sub_not_above s w {x} t c f h l e =
    let v = (le_numbers (sub binary64 s.lo x) t (sub-fits binary64 s.lo x) h l).0 in
    let k = sub_low s w c v f in
    lt_not t (sub binary64 s.lo x) h v.held (lt_le t (sub_i s w).lo (sub binary64 s.lo x) h k.0.held v.held (above_tolerance (sub_i s w) t k.0.held h e) (le_of k.0 v k.1)) l
