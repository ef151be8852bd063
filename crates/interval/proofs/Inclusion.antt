-- Wider operands give a wider result: where a lies inside a' and b inside b', the sum, difference and product of a and b lie inside those of a' and b', and so do square and reciprocal of a. Assumes nothing.
use Rattle.std.specs.Prelude.{Some}
use mathlib.Core.Path.{◌≡◌, refl, sym, ap, ◌∙◌, subst}
use mathlib.Core.Logic.{◌⊎◌, inl, inr}
use mathlib.Core.Bool.{Bool, true, false, not, ◌&&◌}
use mathlib.Core.List.{List}
use Prim.Native.Nat.{ℕ, ◌≤◌, ◌<◌}
use native.Mathlib.Nat.{le_refl, le_trans, le_of_eq}
use native.Mathlib.Omega.{arith}
use lib.Dec.{T, T_not}
use lib.Ieee.{Float, inf, binary64, is_nan, le, add, mul}
use lib.Ieee.Fits.{and_l, and_r, add-fits}
use Rattle.float.specs.Float.{sign_bit, next_up, next_down, lesser, greater}
use Rattle.float.proofs.Places.{place, Number, top, bottom, zero_number, zero_place, positive_place, place_least, place_most, le_at, le_of, lt_of, le_numbers, neg_number, neg_place, up_number, down_number}
use Rattle.float.proofs.Laws.{Held, infinite, lesser_is, greater_is, lesser_over, greater_under, next_down_bottom, next_up_top, up_mono, down_mono}
use Rattle.float.proofs.Sums.{add_mono, add_nan, leftmost, rightmost}
use Rattle.float.proofs.Products.{Real, Spans, Under, Over, mul_turn, real_turn, product, mul_least, mul_greatest, nan_times, inf_times, inf_turns}
use Rattle.float.proofs.Quotients.{over, over_number, over_falls}
use Rattle.interval.specs.declared.Interval.{Interval}
use Rattle.interval.specs.Ends.{zero, whole, outward, add_i, sub_i, mul_i, holds_zero, sqr_i, inverse_of}
use Rattle.interval.specs.Box.{at, dot_i}
use Rattle.interval.proofs.Laws.{Ordered, by_step, by_hull, square_ends, low_square, high_square, square_by, whole_ordered, outward_ordered, add_ordered, mul_ordered, sqr_ordered, opposite, minus_is, Four, four, spread_ordered, zero_beside, inverse_is, inverse_of_lem}
use Rattle.interval.proofs.Shadow.{In, square_most, square_least}

pub record Inside (a b : Interval) : Type 0 where
  pub low : Number a.lo
  pub high : Number a.hi
  pub rise : place a.lo ≤ place a.hi
  pub wide_low : Number b.lo
  pub wide_high : Number b.hi
  pub under : place b.lo ≤ place a.lo
  pub over : place a.hi ≤ place b.hi

-- every interval in order lies inside the whole line
pub inside_whole : (a : Interval) → Ordered a → Inside a whole
inside_whole a o =
    let n = le_numbers a.lo a.hi o.lo_held o.hi_held o.order in
    record { low = n.0; high = n.1; rise = le_at n.0 n.1 o.order; wide_low = infinite true; wide_high = infinite false; under = place_least n.0; over = place_most n.1 }

-- and inside itself
pub inside_self : (a : Interval) → Ordered a → Inside a a
inside_self a o =
    let n = le_numbers a.lo a.hi o.lo_held o.hi_held o.order in
    record { low = n.0; high = n.1; rise = le_at n.0 n.1 o.order; wide_low = n.0; wide_high = n.1; under = le_refl (place a.lo); over = le_refl (place a.hi) }

ordered : {a b : Interval} → Inside a b → Ordered a
ordered I = record { lo_held = I.low.held; hi_held = I.high.held; order = le_of I.low I.high I.rise }

unbounded : (l h : Float) → l ≡ inf true → h ≡ inf false → Inside whole (record { lo = next_down l; hi = next_up h })
unbounded l h e f =
    subst (λ (x : Float). Inside whole (record { lo = x; hi = next_up h })) (sym (ap next_down e ∙ next_down_bottom))
    (subst (λ (x : Float). Inside whole (record { lo = inf true; hi = x })) (sym (ap next_up f ∙ next_up_top)) (inside_whole whole whole_ordered))

-- ---- the step outward: l' ≤ l and h ≤ h'; or the inner one is the whole line and the outer one has no bounds
module _ (l h l' h' : Float) (f : Held l) (g : Held h) (f' : Held l') (g' : Held h')
    (o : Ordered (outward l h))
    (mono : T (not (is_nan l)) → T (not (is_nan h)) → T (not (is_nan l')) → T (not (is_nan h')) → (place l' ≤ place l) × (place h ≤ place h'))
    (gap : T (is_nan l) ⊎ T (is_nan h) → T (not (is_nan l')) → T (not (is_nan h')) → (l' ≡ inf true) × (h' ≡ inf false)) where
  outward_inside : Inside (outward l h) (outward l' h')
  outward_inside =
      by_step (λ (i : Interval). Inside (outward l h) i) l' h' (λ n. inside_whole (outward l h) o)
      (λ p' q'. by_step (λ (i : Interval). Ordered i → Inside i (record { lo = next_down l'; hi = next_up h' })) l h (λ n o. let w = gap n p' q' in unbounded l' h' w.0 w.1)
      (λ p q o.
      let A : Number l = record { held = f; real = p } in
      let B : Number h = record { held = g; real = q } in
      let A' : Number l' = record { held = f'; real = p' } in
      let B' : Number h' = record { held = g'; real = q' } in
      let w = mono p q p' q' in
      let n = le_numbers (next_down l) (next_up h) o.lo_held o.hi_held o.order in
      record { low = down_number A; high = up_number B; rise = le_at n.0 n.1 o.order; wide_low = down_number A'; wide_high = up_number B'; under = down_mono A' A w.0; over = up_mono B B' w.1 }) o)

pub add_inside : {a a' b b' : Interval} → Inside a a' → Inside b b' → Inside (add_i a b) (add_i a' b')
unfolding add_i
add_inside {a} {a'} {b} {b'} I J =
    outward_inside (add binary64 a.lo b.lo) (add binary64 a.hi b.hi) (add binary64 a'.lo b'.lo) (add binary64 a'.hi b'.hi)
    (add-fits binary64 a.lo b.lo) (add-fits binary64 a.hi b.hi) (add-fits binary64 a'.lo b'.lo) (add-fits binary64 a'.hi b'.hi)
    (add_ordered a b (ordered I) (ordered J))
    (λ r s r' s'. (
      le_at (record { held = add-fits binary64 a'.lo b'.lo; real = r' }) (record { held = add-fits binary64 a.lo b.lo; real = r })
          (add_mono a'.lo a.lo b'.lo b.lo I.wide_low.held I.low.held J.wide_low.held J.low.held r' r (le_of I.wide_low I.low I.under) (le_of J.wide_low J.low J.under)),
      le_at (record { held = add-fits binary64 a.hi b.hi; real = s }) (record { held = add-fits binary64 a'.hi b'.hi; real = s' })
          (add_mono a.hi a'.hi b.hi b'.hi I.high.held I.wide_high.held J.high.held J.wide_high.held s s' (le_of I.high I.wide_high I.over) (le_of J.high J.wide_high J.over)),
    ))
    gap
  where
    -- one of a is -infinity and one of b is +infinity
    left : {x y : Float} → x ≡ inf true → y ≡ inf false → place a.lo ≤ place x → place y ≤ place b.hi → T (not (is_nan (add binary64 a'.lo b'.lo))) → T (not (is_nan (add binary64 a'.hi b'.hi)))
        → (add binary64 a'.lo b'.lo ≡ inf true) × (add binary64 a'.hi b'.hi ≡ inf false)
    left e f h k r s = (
      leftmost a'.lo b'.lo true (bottom I.wide_low (le_trans I.under (le_trans h (le_of_eq (ap place e))))) r,
      rightmost a'.hi b'.hi false (top J.wide_high (le_trans (le_of_eq (sym (ap place f))) (le_trans k J.over))) s,
    )

    right : {x y : Float} → x ≡ inf false → y ≡ inf true → place x ≤ place a.hi → place b.lo ≤ place y → T (not (is_nan (add binary64 a'.lo b'.lo))) → T (not (is_nan (add binary64 a'.hi b'.hi)))
        → (add binary64 a'.lo b'.lo ≡ inf true) × (add binary64 a'.hi b'.hi ≡ inf false)
    right e f h k r s = (
      rightmost a'.lo b'.lo true (bottom J.wide_low (le_trans J.under (le_trans k (le_of_eq (ap place f))))) r,
      leftmost a'.hi b'.hi false (top I.wide_high (le_trans (le_of_eq (sym (ap place e))) (le_trans h I.over))) s,
    )

    gap : T (is_nan (add binary64 a.lo b.lo)) ⊎ T (is_nan (add binary64 a.hi b.hi)) → T (not (is_nan (add binary64 a'.lo b'.lo))) → T (not (is_nan (add binary64 a'.hi b'.hi)))
        → (add binary64 a'.lo b'.lo ≡ inf true) × (add binary64 a'.hi b'.hi ≡ inf false)
    gap (inl n) r s = elim (add_nan a.lo b.lo I.low.real J.low.real n) [ inl e ↦ left e.0 e.1 (le_refl (place a.lo)) J.rise r s | inr e ↦ right e.0 e.1 I.rise (le_refl (place b.lo)) r s ]
    gap (inr n) r s = elim (add_nan a.hi b.hi I.high.real J.high.real n) [ inl e ↦ left e.0 e.1 I.rise (le_refl (place b.hi)) r s | inr e ↦ right e.0 e.1 (le_refl (place a.hi)) J.rise r s ]

opposite_inside : {a b : Interval} → Inside a b → Inside (opposite a) (opposite b)
opposite_inside I =
    let i = neg_place I.low in
    let j = neg_place I.high in
    let k = neg_place I.wide_low in
    let l = neg_place I.wide_high in
    let r = I.rise in
    let u = I.under in
    let o = I.over in
    record {
      low = neg_number I.high;
      high = neg_number I.low;
      rise = omega arith;
      wide_low = neg_number I.wide_high;
      wide_high = neg_number I.wide_low;
      under = omega arith;
      over = omega arith;
    }

pub sub_inside : {a a' b b' : Interval} → Inside a a' → Inside b b' → Inside (sub_i a b) (sub_i a' b')
sub_inside {a} {a'} {b} {b'} I J = subst (λ (i : Interval). Inside i (sub_i a' b')) (sym (minus_is a b)) (subst (Inside (add_i a (opposite b))) (sym (minus_is a' b')) (add_inside I (opposite_inside J)))

-- ---- a product
module _ {a a' b b' : Interval} (I : Inside a a') (J : Inside b b') (lu : Real a'.lo b'.lo) (lv : Real a'.lo b'.hi) (hu : Real a'.hi b'.lo) (hv : Real a'.hi b'.hi) where
  -- an end of a and one of b
  spans : {x y : Float} → Number x → Number y → place a'.lo ≤ place x → place x ≤ place a'.hi → place b'.lo ≤ place y → place y ≤ place b'.hi → Real x y → Spans a'.lo a'.hi b'.lo b'.hi x y
  spans A B p q r s t = record {
    l_is = I.wide_low;
    h_is = I.wide_high;
    u_is = J.wide_low;
    v_is = J.wide_high;
    x_is = A;
    y_is = B;
    left = p;
    right = q;
    first = r;
    last = s;
    lu = lu;
    lv = lv;
    hu = hu;
    hv = hv;
    xy = t;
  }

  -- where a product inside is a NaN, the outer ones reach from -infinity to +infinity
  reaches : {x y : Float} → Number x → Number y → place a'.lo ≤ place x → place x ≤ place a'.hi → place b'.lo ≤ place y → place y ≤ place b'.hi → T (is_nan (mul binary64 x y)) → (low high : ℕ)
      → Under low a'.lo a'.hi b'.lo b'.hi → Over high a'.lo a'.hi b'.lo b'.hi → (low ≤ place (inf true)) × (place (inf false) ≤ high)
  reaches {x} {y} A B p q r s n low high U O = go (nan_times x y A B n)
    where
      of : {z w : Float} → z ≡ w → low ≤ place z → low ≤ place w
      of e h = le_trans h (le_of_eq (ap place e))

      to : {z w : Float} → z ≡ w → place z ≤ high → place w ≤ high
      to e h = le_trans (le_of_eq (sym (ap place e))) h

      x_low : x ≡ inf true → place y ≡ sign_bit → (low ≤ place (inf true)) × (place (inf false) ≤ high)
      x_low e z =
          let k : a'.lo ≡ inf true = bottom I.wide_low (le_trans p (le_of_eq (ap place e))) in (
            of (ap (λ (w : Float). mul binary64 w b'.hi) k ∙ inf_times true b'.hi J.wide_high.held (omega arith) (subst (λ (w : Float). Real w b'.hi) k lv)) U.lv,
            to (ap (λ (w : Float). mul binary64 w b'.lo) k ∙ inf_turns true b'.lo J.wide_low (omega arith) (subst (λ (w : Float). Real w b'.lo) k lu)) O.lu,
          )

      x_high : x ≡ inf false → place y ≡ sign_bit → (low ≤ place (inf true)) × (place (inf false) ≤ high)
      x_high e z =
          let k : a'.hi ≡ inf false = top I.wide_high (le_trans (le_of_eq (sym (ap place e))) q) in (
            of (ap (λ (w : Float). mul binary64 w b'.lo) k ∙ inf_turns false b'.lo J.wide_low (omega arith) (subst (λ (w : Float). Real w b'.lo) k hu)) U.hu,
            to (ap (λ (w : Float). mul binary64 w b'.hi) k ∙ inf_times false b'.hi J.wide_high.held (omega arith) (subst (λ (w : Float). Real w b'.hi) k hv)) O.hv,
          )

      y_low : y ≡ inf true → place x ≡ sign_bit → (low ≤ place (inf true)) × (place (inf false) ≤ high)
      y_low e z =
          let k : b'.lo ≡ inf true = bottom J.wide_low (le_trans r (le_of_eq (ap place e))) in (
            of (mul_turn a'.hi b'.lo ∙ ap (λ (w : Float). mul binary64 w a'.hi) k ∙ inf_times true a'.hi I.wide_high.held (omega arith) (subst (λ (w : Float). Real w a'.hi) k (real_turn a'.hi b'.lo hu))) U.hu,
            to (mul_turn a'.lo b'.lo ∙ ap (λ (w : Float). mul binary64 w a'.lo) k ∙ inf_turns true a'.lo I.wide_low (omega arith) (subst (λ (w : Float). Real w a'.lo) k (real_turn a'.lo b'.lo lu))) O.lu,
          )

      y_high : y ≡ inf false → place x ≡ sign_bit → (low ≤ place (inf true)) × (place (inf false) ≤ high)
      y_high e z =
          let k : b'.hi ≡ inf false = top J.wide_high (le_trans (le_of_eq (sym (ap place e))) s) in (
            of (mul_turn a'.lo b'.hi ∙ ap (λ (w : Float). mul binary64 w a'.lo) k ∙ inf_turns false a'.lo I.wide_low (omega arith) (subst (λ (w : Float). Real w a'.lo) k (real_turn a'.lo b'.hi lv))) U.lv,
            to (mul_turn a'.hi b'.hi ∙ ap (λ (w : Float). mul binary64 w a'.hi) k ∙ inf_times false a'.hi I.wide_high.held (omega arith) (subst (λ (w : Float). Real w a'.hi) k (real_turn a'.hi b'.hi hv))) O.hv,
          )

      go : (((x ≡ inf true) ⊎ (x ≡ inf false)) × (place y ≡ sign_bit)) ⊎ (((y ≡ inf true) ⊎ (y ≡ inf false)) × (place x ≡ sign_bit)) → (low ≤ place (inf true)) × (place (inf false) ≤ high)
      go (inl (inl e, z)) = x_low e z
      go (inl (inr e, z)) = x_high e z
      go (inr (inl e, z)) = y_low e z
      go (inr (inr e, z)) = y_high e z

  abbrev P : Float
  P = mul binary64 a.lo b.lo

  abbrev Q : Float
  Q = mul binary64 a.lo b.hi

  abbrev R : Float
  R = mul binary64 a.hi b.lo

  abbrev S : Float
  S = mul binary64 a.hi b.hi

  abbrev least : Float
  least = lesser (lesser (mul binary64 a'.lo b'.lo) (mul binary64 a'.lo b'.hi)) (lesser (mul binary64 a'.hi b'.lo) (mul binary64 a'.hi b'.hi))

  abbrev most : Float
  most = greater (greater (mul binary64 a'.lo b'.lo) (mul binary64 a'.lo b'.hi)) (greater (mul binary64 a'.hi b'.lo) (mul binary64 a'.hi b'.hi))

  bounds : Four (mul binary64 a'.lo b'.lo) (mul binary64 a'.lo b'.hi) (mul binary64 a'.hi b'.lo) (mul binary64 a'.hi b'.hi)
  bounds = four (product a'.lo b'.lo lu) (product a'.lo b'.hi lv) (product a'.hi b'.lo hu) (product a'.hi b'.hi hv)

  -- the ends of a and b in those of a' and b'
  low_high : place a.lo ≤ place a'.hi
  low_high = le_trans I.rise I.over

  high_low : place a'.lo ≤ place a.hi
  high_low = le_trans I.under I.rise

  first_last : place b.lo ≤ place b'.hi
  first_last = le_trans J.rise J.over

  last_first : place b'.lo ≤ place b.hi
  last_first = le_trans J.under J.rise

  within_least : {x y : Float} → Spans a'.lo a'.hi b'.lo b'.hi x y → place least ≤ place (mul binary64 x y)
  within_least X = let F = bounds in mul_least X (record { lu = F.lp; lv = F.lq; hu = F.lr; hv = F.ls })

  within_most : {x y : Float} → Spans a'.lo a'.hi b'.lo b'.hi x y → place (mul binary64 x y) ≤ place most
  within_most X = let F = bounds in mul_greatest X (record { lu = F.mp; lv = F.mq; hu = F.mr; hv = F.ms })

  -- all products inside are numbers
  all_real : Real a.lo b.lo → Real a.lo b.hi → Real a.hi b.lo → Real a.hi b.hi → Inside (outward (lesser (lesser P Q) (lesser R S)) (greater (greater P Q) (greater R S))) (outward least most)
  all_real p q r s =
      let F = bounds in
      let G = four (product a.lo b.lo p) (product a.lo b.hi q) (product a.hi b.lo r) (product a.hi b.hi s) in
      let x1 = spans I.low J.low I.under low_high J.under first_last p in
      let x2 = spans I.low J.high I.under low_high last_first J.over q in
      let x3 = spans I.high J.low high_low I.over J.under first_last r in
      let x4 = spans I.high J.high high_low I.over last_first J.over s in
      outward_inside (lesser (lesser P Q) (lesser R S)) (greater (greater P Q) (greater R S)) least most G.least.held G.most.held F.least.held F.most.held (spread_ordered G)
      (λ i j k l. (
        lesser_over (lesser P Q) (lesser R S) (place least) (lesser_over P Q (place least) (within_least x1) (within_least x2)) (lesser_over R S (place least) (within_least x3) (within_least x4)),
        greater_under (greater P Q) (greater R S) (place most) (greater_under P Q (place most) (within_most x1) (within_most x2)) (greater_under R S (place most) (within_most x3) (within_most x4)),
      ))
      (λ n i j. elim n [ inl t ↦ absurd (T_not (is_nan (lesser (lesser P Q) (lesser R S))) G.least.real t) | inr t ↦ absurd (T_not (is_nan (greater (greater P Q) (greater R S))) G.most.real t) ])

  -- one is a NaN
  some_nan : {x y : Float} → Number x → Number y → place a'.lo ≤ place x → place x ≤ place a'.hi → place b'.lo ≤ place y → place y ≤ place b'.hi → T (is_nan (mul binary64 x y)) → Inside whole (outward least most)
  some_nan A B p q r s n =
      let F = bounds in
      let w = reaches A B p q r s n (place least) (place most) (record { lu = F.lp; lv = F.lq; hu = F.lr; hv = F.ls }) (record { lu = F.mp; lv = F.mq; hu = F.mr; hv = F.ms }) in
      by_step (Inside whole) least most (λ n. inside_whole whole whole_ordered) (λ i j. unbounded least most (bottom F.least w.0) (top F.most w.1))

  mul_bounded : Inside (mul_i a b) (outward least most)
  unfolding mul_i
  mul_bounded = by_hull (λ (i : Interval). Inside i (outward least most)) P Q R S nans all_real
    where
      nans : (T (is_nan P) ⊎ T (is_nan Q)) ⊎ (T (is_nan R) ⊎ T (is_nan S)) → Inside whole (outward least most)
      nans (inl (inl n)) = some_nan I.low J.low I.under low_high J.under first_last n
      nans (inl (inr n)) = some_nan I.low J.high I.under low_high last_first J.over n
      nans (inr (inl n)) = some_nan I.high J.low high_low I.over J.under first_last n
      nans (inr (inr n)) = some_nan I.high J.high high_low I.over last_first J.over n

pub mul_inside : {a a' b b' : Interval} → Inside a a' → Inside b b' → Inside (mul_i a b) (mul_i a' b')
unfolding mul_i
mul_inside {a} {a'} {b} {b'} I J =
    by_hull (Inside (mul_i a b)) (mul binary64 a'.lo b'.lo) (mul binary64 a'.lo b'.hi) (mul binary64 a'.hi b'.lo) (mul binary64 a'.hi b'.hi) (λ n. inside_whole (mul_i a b) (mul_ordered a b)) (mul_bounded I J)

-- ---- a square
module _ {a a' : Interval} (I : Inside a a') where
  -- the ends of a lie in a'
  low_in : In a' a.lo
  low_in = record { low = I.wide_low; it = I.low; high = I.wide_high; from = I.under; to = le_trans I.rise I.over }

  high_in : In a' a.hi
  high_in = record { low = I.wide_low; it = I.high; high = I.wide_high; from = le_trans I.under I.rise; to = I.over }

  zero_kept : holds_zero a ≡ true → holds_zero a' ≡ false → ⊥
  unfolding holds_zero
  zero_kept e e' =
      let h : T (le a.lo zero && le zero a.hi) = subst T (sym e) tt in
      let l = le_at I.low zero_number (and_l (le a.lo zero) (le zero a.hi) h) in
      let u = le_at zero_number I.high (and_r (le a.lo zero) (le zero a.hi) h) in
      let z = zero_place in
      elim (zero_beside a' I.wide_low I.wide_high e') [ inl k ↦ omega (arith, I.under) | inr k ↦ omega (arith, I.over) ]

  abbrev p : Float
  p = mul binary64 a.lo a.lo

  abbrev q : Float
  q = mul binary64 a.hi a.hi

  abbrev p' : Float
  p' = mul binary64 a'.lo a'.lo

  abbrev q' : Float
  q' = mul binary64 a'.hi a'.hi

  floor_inside : (z z' : Bool) → holds_zero a ≡ z → holds_zero a' ≡ z' → place (square_ends z' p' q').lo ≤ place (square_ends z p q).lo
  floor_inside true true e e' = le_refl (place zero)
  floor_inside true false e e' = absurd (zero_kept e e')
  floor_inside false true e e' = (greater_is (down_number (lesser_is (low_square a I.low I.high) (high_square a I.low I.high)).0) zero_number).1.1
  floor_inside false false e e' =
      let L = (lesser_is (low_square a I.low I.high) (high_square a I.low I.high)).0 in
      let L' = (lesser_is (low_square a' I.wide_low I.wide_high) (high_square a' I.wide_low I.wide_high)).0 in
      let g = (greater_is (down_number L) zero_number).1 in
      greater_under (next_down (lesser p' q')) zero (place (greater (next_down (lesser p q)) zero)) (le_trans (down_mono L' L (lesser_over p q (place (lesser p' q')) (square_least low_in e') (square_least high_in e'))) g.0) g.1

  square_ends_lem : Ordered (square_ends (holds_zero a) p q) → Ordered (square_ends (holds_zero a') p' q') → Inside (square_ends (holds_zero a) p q) (square_ends (holds_zero a') p' q')
  square_ends_lem o o' =
      let n = le_numbers (square_ends (holds_zero a) p q).lo (square_ends (holds_zero a) p q).hi o.lo_held o.hi_held o.order in
      let n' = le_numbers (square_ends (holds_zero a') p' q').lo (square_ends (holds_zero a') p' q').hi o'.lo_held o'.hi_held o'.order in
      let G = (greater_is (low_square a I.low I.high) (high_square a I.low I.high)).0 in
      let G' = (greater_is (low_square a' I.wide_low I.wide_high) (high_square a' I.wide_low I.wide_high)).0 in
      record {
        low = n.0;
        high = n.1;
        rise = le_at n.0 n.1 o.order;
        wide_low = n'.0;
        wide_high = n'.1;
        under = floor_inside (holds_zero a) (holds_zero a') refl refl;
        over = up_mono G G' (greater_under p q (place (greater p' q')) (square_most low_in) (square_most high_in));
      }

  pub sqr_inside : Inside (sqr_i a) (sqr_i a')
  sqr_inside =
      square_by a' I.wide_low I.wide_high (λ (i : Interval). Ordered i → Inside (sqr_i a) i)
      (λ o'. square_by a I.low I.high (λ (i : Interval). Ordered i → Inside i (square_ends (holds_zero a') p' q')) (λ o. square_ends_lem o o') (sqr_ordered a)) (sqr_ordered a')

-- ---- a reciprocal: where the wider one is, so is the narrower, inside it
pub record Narrower (a r' : Interval) : Type 0 where
  pub value : Interval
  pub is : inverse_of a ≡ Some value
  pub inside : Inside value r'

pub inverse_inside : {a a' r' : Interval} → Inside a a' → inverse_of a' ≡ Some r' → Narrower a r'
inverse_inside {a} {a'} {r'} I e =
    let v = inverse_is a' r' e in
    let l' = (positive_place a'.lo I.wide_low.held v.0).1 in
    let l = le_trans l' I.under in
    let h = le_trans l I.rise in
    let h' = le_trans h I.over in
    let L = over_number I.low l in
    let H = over_number I.high h in
    record {
      value = outward (over a.hi) (over a.lo);
      is = inverse_of_lem a (lt_of zero_number I.low (subst (λ (n : ℕ). n < place a.lo) (sym zero_place) l));
      inside = subst (Inside (outward (over a.hi) (over a.lo))) (sym v.1)
          (outward_inside (over a.hi) (over a.lo) (over a'.hi) (over a'.lo) H.held L.held (over_number I.wide_high h').held (over_number I.wide_low l').held
          (outward_ordered (over a.hi) (over a.lo) H.held L.held (λ p q. le_of H L (over_falls I.low I.high l I.rise)))
          (λ p q p' q'. (over_falls I.high I.wide_high h I.over, over_falls I.wide_low I.low l' I.under))
          (λ n p' q'. elim n [ inl t ↦ absurd (T_not (is_nan (over a.hi)) H.real t) | inr t ↦ absurd (T_not (is_nan (over a.lo)) L.real t) ]));
    }

-- ---- a dot
pub dot_inside : (a a' b b' : List Interval) → Inside (at a 0) (at a' 0) → Inside (at a 1) (at a' 1) → Inside (at a 2) (at a' 2) → Inside (at b 0) (at b' 0) → Inside (at b 1) (at b' 1) → Inside (at b 2) (at b' 2) → Inside (dot_i a b) (dot_i a' b')
unfolding dot_i
dot_inside a a' b b' x y z u v w = add_inside (add_inside (mul_inside x u) (mul_inside y v)) (mul_inside z w)
