-- A product keeps the order of one factor where the other is not negative, infinities included; so the product of two numbers that lie between two each
-- lies between the least and the greatest of the four products of the ends, and a square is greater the farther from zero. Assumes nothing.
use mathlib.Core.Path.{◌≡◌, refl, sym, ap, ◌∙◌, subst}
use mathlib.Core.Logic.{◌⊎◌, inl, inr}
use mathlib.Core.Bool.{Bool, true, false, not, cond}
use Prim.Native.Nat.{ℕ, ◌+◌, ◌-◌, ◌*◌, ◌^◌, ◌≤◌, ◌<◌}
use native.Mathlib.Nat.{le_trans, le_of_eq, zero-mul, mul_comm, mul-le-mul_right, mul-pos}
use native.Mathlib.Omega.{arith}
use lib.Dec.{T, eqb, eqb→eq, not_T, T_not}
use lib.Pow.{pow_pos}
use lib.IntN.{ℤ}
use lib.Ieee.{Float, nan, inf, fin, binary64, up, down, unlike, level, is_nan, round, fits, eq, neg, mul, of_bits}
use lib.Ieee.Fits.{mul-fits, up_pos, down_pos, eq→eqb}
use Rattle.float.specs.Float.{sign_bit, finite}
use Rattle.float.specs.Exact.{plus, minus}
use Rattle.float.proofs.Facts.{no, round_no_nan}
use Rattle.float.proofs.Rounded.{times_plus, times_minus, multiplied, round_neg, whole, whole_is}
use Rattle.float.proofs.Places.{place, inf_place, place_least, place_most, place_units, zero_number, zero_place, eq_is, kind, within, top, Number, neg_real, neg_twice, neg_number, neg_place, side, same}
use Rattle.float.proofs.Sums.{rounded_place, between, neg_back, above_zero}

-- a product that is no NaN
abbrev pub Real : Float → Float → Type 0
Real x y = T (not (is_nan (mul binary64 x y)))

-- ---- finite factors, in units

-- of y not below 0, x not above w gives x * y not above w * y, multiplied out
module _ (xp xn wp wn : ℕ) (h : xp + wn ≤ wp + xn) where
  scaled : (yn k : ℕ) → xp * (yn + k) + xn * yn + (wp * yn + wn * (yn + k)) ≤ wp * (yn + k) + wn * yn + (xp * yn + xn * (yn + k))
  scaled yn k = omega (arith, mul-le-mul_right k h)

  pub rises : (yp yn : ℕ) → yn ≤ yp → xp * yp + xn * yn + (wp * yn + wn * yp) ≤ wp * yp + wn * yn + (xp * yn + xn * yp)
  rises yp yn l =
      let e : yn + (yp - yn) ≡ yp = omega arith in
      subst (λ (z : ℕ). xp * z + xn * yn + (wp * yn + wn * z) ≤ wp * z + wn * yn + (xp * yn + xn * z)) e (scaled yn (yp - yn))

scaled_both : (x n x' n' o o' l : ℕ) → x + n' ≤ x' + n → x * o * (o' * l) + n' * o' * (o * l) ≤ x' * o' * (o * l) + n * o * (o' * l)
scaled_both x n x' n' o o' l h = let k = mul-le-mul_right (o * (o' * l)) h in omega arith

mul_finite : (x x' y : Float) → T (fits binary64 x) → T (fits binary64 x') → T (fits binary64 y) → T (finite x) → T (finite x') → T (finite y) → place x ≤ place x' → minus y ≤ plus y
    → place (mul binary64 x y) ≤ place (mul binary64 x' y)
mul_finite x x' y f f' g k k' l h i =
    let A = multiplied x y f g k l in
    let B = multiplied x' y f' g k' l in
    let u = place_units x x' f f' k k' h in
    rounded_place A.rounded B.rounded (mul-pos A.over_pos (pow_pos 1074)) (mul-pos B.over_pos (pow_pos 1074))
    (scaled_both (times_plus x y) (times_minus x y) (times_plus x' y) (times_minus x' y) A.over B.over (2 ^ 1074) (rises (plus x) (minus x) (plus x') (minus x') u (plus y) (minus y) i))

-- not below zero
not_less : (y : Float) → T (fits binary64 y) → T (finite y) → sign_bit ≤ place y → minus y ≤ plus y
unfolding of_bits
not_less y f k h = let u : plus (of_bits binary64 0) + minus y ≤ plus y + minus (of_bits binary64 0) = place_units (of_bits binary64 0) y zero_number.held f tt k (subst (λ (n : ℕ). n ≤ place y) (sym zero_place) h) in omega arith

-- ---- the other sign, and the other order
unlike_turn : (s t : Bool) → unlike s t ≡ unlike t s
unlike_turn true true = refl
unlike_turn true false = refl
unlike_turn false true = refl
unlike_turn false false = refl

unlike_not : (s t : Bool) → unlike s (not t) ≡ not (unlike s t)
unlike_not true true = refl
unlike_not true false = refl
unlike_not false true = refl
unlike_not false false = refl

pub mul_turn : (x y : Float) → mul binary64 x y ≡ mul binary64 y x
unfolding mul
mul_turn nan nan = refl
mul_turn nan (inf t) = refl
mul_turn nan (fin t n d) = refl
mul_turn (inf s) nan = refl
mul_turn (inf s) (inf t) = ap inf (unlike_turn s t)
mul_turn (inf s) (fin t n d) = ap (λ (b : Bool). cond (eqb n 0) nan (inf b)) (unlike_turn s t)
mul_turn (fin s m e) nan = refl
mul_turn (fin s m e) (inf t) = ap (λ (b : Bool). cond (eqb m 0) nan (inf b)) (unlike_turn s t)
mul_turn (fin s m e) (fin t n d) =
    ap (λ (b : Bool). round binary64 b (m * up e * (n * up d)) (down e * down d)) (unlike_turn s t)
    ∙ ap (λ (z : ℕ). round binary64 (unlike t s) z (down e * down d)) (mul_comm (m * up e) (n * up d))
    ∙ ap (round binary64 (unlike t s) (n * up d * (m * up e))) (mul_comm (down e) (down d))

neg_cond : (b s : Bool) → cond b nan (inf (not s)) ≡ neg (cond b nan (inf s))
unfolding neg
neg_cond true s = refl
neg_cond false s = refl

pub mul_neg : (x y : Float) → mul binary64 x (neg y) ≡ neg (mul binary64 x y)
unfolding mul neg
mul_neg nan y = refl
mul_neg (inf s) nan = refl
mul_neg (inf s) (inf t) = ap inf (unlike_not s t)
mul_neg (inf s) (fin t n d) = ap (λ (b : Bool). cond (eqb n 0) nan (inf b)) (unlike_not s t) ∙ neg_cond (eqb n 0) (unlike s t)
mul_neg (fin s m e) nan = refl
mul_neg (fin s m e) (inf t) = ap (λ (b : Bool). cond (eqb m 0) nan (inf b)) (unlike_not s t) ∙ neg_cond (eqb m 0) (unlike s t)
mul_neg (fin s m e) (fin t n d) = ap (λ (b : Bool). round binary64 b (m * up e * (n * up d)) (down e * down d)) (unlike_not s t) ∙ sym (round_neg binary64 (unlike s t) (m * up e * (n * up d)) (down e * down d))

pub mul_both : (x y : Float) → mul binary64 (neg x) (neg y) ≡ mul binary64 x y
mul_both x y = mul_neg (neg x) y ∙ ap neg (mul_turn (neg x) y ∙ mul_neg y x ∙ ap neg (mul_turn y x)) ∙ neg_twice (mul binary64 x y)

-- ---- which products are no NaN
pub mul_left : (x y : Float) → Real x y → T (not (is_nan x))
unfolding mul is_nan
mul_left nan y h = h
mul_left (inf s) y h = tt
mul_left (fin s m e) y h = tt

pub mul_right : (x y : Float) → Real x y → T (not (is_nan y))
unfolding mul is_nan
mul_right nan y h = absurd h
mul_right (inf s) nan h = h
mul_right (inf s) (inf t) h = tt
mul_right (inf s) (fin t n d) h = tt
mul_right (fin s m e) nan h = h
mul_right (fin s m e) (inf t) h = tt
mul_right (fin s m e) (fin t n d) h = tt

pub real_turn : (x y : Float) → Real x y → Real y x
real_turn x y r = subst (λ (z : Float). T (not (is_nan z))) (mul_turn x y) r

turned_real : (x y : Float) → Real x y → Real x (neg y)
turned_real x y r = subst (λ (z : Float). T (not (is_nan z))) (sym (mul_neg x y)) (neg_real (mul binary64 x y) r)

both_real : (x y : Float) → Real x y → Real (neg x) (neg y)
both_real x y r = subst (λ (z : Float). T (not (is_nan z))) (sym (mul_both x y)) r

finite_times : (x y : Float) → T (finite x) → T (finite y) → Real x y
unfolding mul
finite_times (fin s m e) (fin t n d) k l = no (round_no_nan binary64 (unlike s t) (m * up e * (n * up d)) (down e * down d))
finite_times nan y k l = absurd k
finite_times (inf s) y k l = absurd k
finite_times (fin s m e) nan k l = absurd l
finite_times (fin s m e) (inf t) k l = absurd l

-- a finite product has finite factors
never : (b s : Bool) → T (finite (cond b nan (inf s))) → ⊥
never true s h = h
never false s h = h

pub finite_mul : (x y : Float) → T (finite (mul binary64 x y)) → T (finite x) × T (finite y)
unfolding mul
finite_mul nan y h = absurd h
finite_mul (inf s) nan h = absurd h
finite_mul (inf s) (inf t) h = absurd h
finite_mul (inf s) (fin t n d) h = absurd (never (eqb n 0) (unlike s t) h)
finite_mul (fin s m e) nan h = absurd h
finite_mul (fin s m e) (inf t) h = absurd (never (eqb m 0) (unlike s t) h)
finite_mul (fin s m e) (fin t n d) h = (tt, tt)

-- what lies between the infinities is finite
pub finite_between : {r : Float} → Number r → place (inf true) < place r → place r < place (inf false) → T (finite r)
finite_between {r} a l h = go (kind r a.real)
  where
    go : (r ≡ inf true) ⊎ ((r ≡ inf false) ⊎ T (finite r)) → T (finite r)
    go (inl e) = let u = ap place e in absurd (omega arith)
    go (inr (inl e)) = let u = ap place e in absurd (omega arith)
    go (inr (inr k)) = k

pub product : (x y : Float) → Real x y → Number (mul binary64 x y)
product x y r = record { held = mul-fits binary64 x y; real = r }

-- ---- an infinity times what is not below zero
no_zero : (n : ℕ) (d : ℤ) → T (fits binary64 (fin true n d)) → sign_bit ≤ place (fin true n d) → T (eqb n 0)
no_zero n d f h = elim (same n 0) [
  | inl e ↦ eq→eqb e
  | inr z ↦ absurd (let u = not_less (fin true n d) f tt h in clash (whole n d) (down d) (n * up d * 2 ^ 1074) (whole_is true n d f) u (mul-pos (mul-pos (some n z) (up_pos d)) (pow_pos 1074)))
]
  where
    some : (n : ℕ) → (n ≡ 0 → ⊥) → 0 < n
    some n z = omega arith

    clash : (w c x : ℕ) → w * c ≡ x → w ≤ 0 → 0 < x → ⊥
    clash w c x e h k = let z : w * c ≤ 0 * c = mul-le-mul_right c h in omega arith

pub inf_times : (s : Bool) (y : Float) → T (fits binary64 y) → sign_bit ≤ place y → Real (inf s) y → mul binary64 (inf s) y ≡ inf s
unfolding mul is_nan
inf_times s nan f h r = absurd r
inf_times s (inf true) f h r = absurd (let i = inf_place true in omega arith)
inf_times true (inf false) f h r = refl
inf_times false (inf false) f h r = refl
inf_times s (fin t n d) f h r = go s t (eqb n 0) r (λ e. no_zero n d (subst (λ (b : Bool). T (fits binary64 (fin b n d))) e f) (subst (λ (b : Bool). sign_bit ≤ place (fin b n d)) e h))
  where
    go : (s t z : Bool) → T (not (is_nan (cond z nan (inf (unlike s t))))) → (t ≡ true → T z) → cond z nan (inf (unlike s t)) ≡ inf s
    go s t true r g = absurd r
    go true true false r g = absurd (g refl)
    go false true false r g = absurd (g refl)
    go true false false r g = refl
    go false false false r g = refl

-- ---- a product keeps the order
module _ {x x' y : Float} (a : Number x) (a' : Number x') (b : Number y) (r : Real x y) (r' : Real x' y) (h : place x ≤ place x') where
  low : mul binary64 x y ≡ inf true → place (mul binary64 x y) ≤ place (mul binary64 x' y)
  low e = le_trans (le_of_eq (ap place e)) (place_least (product x' y r'))

  high : mul binary64 x' y ≡ inf false → place (mul binary64 x y) ≤ place (mul binary64 x' y)
  high e = le_trans (place_most (product x y r)) (le_of_eq (sym (ap place e)))

  -- y is +infinity
  far : y ≡ inf false → place (mul binary64 x y) ≤ place (mul binary64 x' y)
  far e = elim (side (place x) sign_bit) [
    | inl l ↦
        let n = neg_number a in
        let i = neg_place a in
        let q : Real (inf false) (neg x) = turned_real (inf false) x (subst (λ (z : Float). Real z x) e (real_turn x y r)) in
        let m : mul binary64 (inf false) (neg x) ≡ inf false = inf_times false (neg x) n.held (omega arith) q in
        low (mul_turn x y ∙ ap (λ (z : Float). mul binary64 z x) e ∙ neg_back (mul binary64 (inf false) x) false (sym (mul_neg (inf false) x) ∙ m))
    | inr g ↦ high (mul_turn x' y ∙ ap (λ (z : Float). mul binary64 z x') e ∙ inf_times false x' a'.held (le_trans g h) (subst (λ (z : Float). Real z x') e (real_turn x' y r')))
  ]

  pub mul_rises : sign_bit ≤ place y → place (mul binary64 x y) ≤ place (mul binary64 x' y)
  mul_rises g = go (between x x' a a' h)
    where
      on : T (finite x) → T (finite x') → (y ≡ inf true) ⊎ ((y ≡ inf false) ⊎ T (finite y)) → place (mul binary64 x y) ≤ place (mul binary64 x' y)
      on k k' (inl e) = let i = inf_place true in let u = ap place e in absurd (omega arith)
      on k k' (inr (inl e)) = far e
      on k k' (inr (inr l)) = mul_finite x x' y a.held a'.held b.held k k' l h (not_less y b.held l g)

      go : (x ≡ inf true) ⊎ ((x' ≡ inf false) ⊎ (T (finite x) × T (finite x'))) → place (mul binary64 x y) ≤ place (mul binary64 x' y)
      go (inl e) = low (ap (λ (z : Float). mul binary64 z y) e ∙ inf_times true y b.held g (subst (λ (z : Float). Real z y) e r))
      go (inr (inl e)) = high (ap (λ (z : Float). mul binary64 z y) e ∙ inf_times false y b.held g (subst (λ (z : Float). Real z y) e r'))
      go (inr (inr k)) = on k.0 k.1 (kind y b.real)

pub mul_falls : {x x' y : Float} → Number x → Number x' → Number y → Real x y → Real x' y → place x ≤ place x' → place y ≤ sign_bit → place (mul binary64 x' y) ≤ place (mul binary64 x y)
mul_falls {x} {x'} {y} a a' b r r' h g =
    let i = neg_place b in
    let k = mul_rises a a' (neg_number b) (turned_real x y r) (turned_real x' y r') h (omega arith) in
    let u = neg_place (product x y r) in
    let v = neg_place (product x' y r') in
    let p = ap place (mul_neg x y) in
    let q = ap place (mul_neg x' y) in
    omega arith

-- ---- between the products of the ends

-- x in [l, h], y in [u, v]
pub record Spans (l h u v x y : Float) : Type 0 where
  pub l_is : Number l
  pub h_is : Number h
  pub u_is : Number u
  pub v_is : Number v
  pub x_is : Number x
  pub y_is : Number y
  pub left : place l ≤ place x
  pub right : place x ≤ place h
  pub first : place u ≤ place y
  pub last : place y ≤ place v
  pub lu : Real l u
  pub lv : Real l v
  pub hu : Real h u
  pub hv : Real h v
  pub xy : Real x y

-- k is not above any product of the ends
pub record Under (k : ℕ) (l h u v : Float) : Type 0 where
  pub lu : k ≤ place (mul binary64 l u)
  pub lv : k ≤ place (mul binary64 l v)
  pub hu : k ≤ place (mul binary64 h u)
  pub hv : k ≤ place (mul binary64 h v)

module _ {l h u v x y : Float} (S : Spans l h u v x y) {k : ℕ} (K : Under k l h u v) where
  -- along the left end
  at_left : Real l y → k ≤ place (mul binary64 l y)
  at_left r = elim (side (place l) sign_bit) [
    | inl n ↦
        let i = mul_falls S.y_is S.v_is S.l_is (real_turn l y r) (real_turn l v S.lv) S.last (omega arith) in
        let p = ap place (mul_turn l y) in
        let q = ap place (mul_turn l v) in
        omega (arith, K.lv)
    | inr n ↦
        let i = mul_rises S.u_is S.y_is S.l_is (real_turn l u S.lu) (real_turn l y r) S.first n in
        let p = ap place (mul_turn l y) in
        let q = ap place (mul_turn l u) in
        omega (arith, K.lu)
  ]

  over : sign_bit ≤ place y → Real l y → k ≤ place (mul binary64 x y)
  over g r = le_trans (at_left r) (mul_rises S.l_is S.x_is S.y_is r S.xy S.left g)

  least_right : sign_bit ≤ place y → k ≤ place (mul binary64 x y)
  least_right g = go (kind l S.l_is.real)
    where
      on : T (finite l) → (y ≡ inf true) ⊎ ((y ≡ inf false) ⊎ T (finite y)) → k ≤ place (mul binary64 x y)
      on f (inl e) = let i = inf_place true in let u = ap place e in absurd (omega arith)
      on f (inr (inl e)) = over g (subst (Real l) (top S.v_is (le_trans (le_of_eq (sym (ap place e))) S.last) ∙ sym e) S.lv)
      on f (inr (inr n)) = over g (finite_times l y f n)

      go : (l ≡ inf true) ⊎ ((l ≡ inf false) ⊎ T (finite l)) → k ≤ place (mul binary64 x y)
      go (inl e) = le_trans K.lv (le_trans (le_of_eq (ap place (ap (λ (z : Float). mul binary64 z v) e ∙ inf_times true v S.v_is.held (le_trans g S.last) (subst (λ (z : Float). Real z v) e S.lv)))) (place_least (product x y S.xy)))
      go (inr (inl e)) = over g (subst (λ (z : Float). Real z y) (top S.x_is (le_trans (le_of_eq (sym (ap place e))) S.left) ∙ sym e) S.xy)
      go (inr (inr f)) = on f (kind y S.y_is.real)

-- with both factors turned round
turned : {l h u v x y : Float} → Spans l h u v x y → Spans (neg h) (neg l) (neg v) (neg u) (neg x) (neg y)
turned {l} {h} {u} {v} {x} {y} S = record {
  l_is = neg_number S.h_is;
  h_is = neg_number S.l_is;
  u_is = neg_number S.v_is;
  v_is = neg_number S.u_is;
  x_is = neg_number S.x_is;
  y_is = neg_number S.y_is;
  left = flip S.x_is S.h_is S.right;
  right = flip S.l_is S.x_is S.left;
  first = flip S.y_is S.v_is S.last;
  last = flip S.u_is S.y_is S.first;
  lu = both_real h v S.hv;
  lv = both_real h u S.hu;
  hu = both_real l v S.lv;
  hv = both_real l u S.lu;
  xy = both_real x y S.xy;
}
  where
    flip : {a b : Float} → Number a → Number b → place a ≤ place b → place (neg b) ≤ place (neg a)
    flip a b h = let i = neg_place a in let j = neg_place b in omega arith

-- with the second turned round
half_turned : {l h u v x y : Float} → Spans l h u v x y → Spans l h (neg v) (neg u) x (neg y)
half_turned {l} {h} {u} {v} {x} {y} S = record {
  l_is = S.l_is;
  h_is = S.h_is;
  u_is = neg_number S.v_is;
  v_is = neg_number S.u_is;
  x_is = S.x_is;
  y_is = neg_number S.y_is;
  left = S.left;
  right = S.right;
  first = flip S.y_is S.v_is S.last;
  last = flip S.u_is S.y_is S.first;
  lu = turned_real l v S.lv;
  lv = turned_real l u S.lu;
  hu = turned_real h v S.hv;
  hv = turned_real h u S.hu;
  xy = turned_real x y S.xy;
}
  where
    flip : {a b : Float} → Number a → Number b → place a ≤ place b → place (neg b) ≤ place (neg a)
    flip a b h = let i = neg_place a in let j = neg_place b in omega arith

pub mul_least : {l h u v x y : Float} → Spans l h u v x y → {k : ℕ} → Under k l h u v → k ≤ place (mul binary64 x y)
mul_least {l} {h} {u} {v} {x} {y} S {k} K = elim (side (place y) sign_bit) [
  | inl n ↦
      let i = neg_place S.y_is in
      subst (λ (z : Float). k ≤ place z) (mul_both x y)
      (least_right (turned S)
      (record {
        lu = subst (λ (z : Float). k ≤ place z) (sym (mul_both h v)) K.hv;
        lv = subst (λ (z : Float). k ≤ place z) (sym (mul_both h u)) K.hu;
        hu = subst (λ (z : Float). k ≤ place z) (sym (mul_both l v)) K.lv;
        hv = subst (λ (z : Float). k ≤ place z) (sym (mul_both l u)) K.lu;
      })
      (omega arith))
  | inr g ↦ least_right S K g
]

-- k is not below any product of the ends
pub record Over (k : ℕ) (l h u v : Float) : Type 0 where
  pub lu : place (mul binary64 l u) ≤ k
  pub lv : place (mul binary64 l v) ≤ k
  pub hu : place (mul binary64 h u) ≤ k
  pub hv : place (mul binary64 h v) ≤ k

pub mul_greatest : {l h u v x y : Float} → Spans l h u v x y → {k : ℕ} → Over k l h u v → place (mul binary64 x y) ≤ k
mul_greatest {l} {h} {u} {v} {x} {y} S {k} K =
    let z = mul_least (half_turned S) {k = 2 * sign_bit - k}
    (record { lu = down l v S.lv K.lv; lv = down l u S.lu K.lu; hu = down h v S.hv K.hv; hv = down h u S.hu K.hu }) in
    let e = ap place (mul_neg x y) in
    let i = neg_place (product x y S.xy) in
    omega arith
  where
    down : (a b : Float) → Real a b → place (mul binary64 a b) ≤ k → 2 * sign_bit - k ≤ place (mul binary64 a (neg b))
    down a b r g = let e = ap place (mul_neg a b) in let i = neg_place (product a b r) in omega arith

-- ---- squares: no NaN
pub square_real : (x : Float) → T (not (is_nan x)) → Real x x
unfolding mul is_nan
square_real nan h = absurd h
square_real (inf s) h = tt
square_real (fin s m e) h = no (round_no_nan binary64 (unlike s s) (m * up e * (m * up e)) (down e * down e))

-- not below zero
unlike_self : (s : Bool) → unlike s s ≡ false
unlike_self true = refl
unlike_self false = refl

pub square_above : (x : Float) → T (not (is_nan x)) → sign_bit ≤ place (mul binary64 x x)
unfolding mul is_nan
square_above nan h = absurd h
square_above (inf s) h = let i = inf_place false in let e = ap (λ (b : Bool). place (inf b)) (unlike_self s) in omega arith
square_above (fin s m e) h =
    subst (λ (b : Bool). sign_bit ≤ place (round binary64 b (m * up e * (m * up e)) (down e * down e))) (sym (unlike_self s)) (above_zero (m * up e * (m * up e)) (down e * down e) (mul-pos (down_pos e) (down_pos e)))

-- and greater the farther from zero
pub square_rises : {x y : Float} → Number x → Number y → sign_bit ≤ place x → place x ≤ place y → place (mul binary64 x x) ≤ place (mul binary64 y y)
square_rises {x} {y} a b h k = go (kind y b.real) (kind x a.real)
  where
    both : T (finite x) → T (finite y) → place (mul binary64 x x) ≤ place (mul binary64 y y)
    both f g =
        let i = mul_rises a b a (finite_times x x f f) (finite_times y x g f) k h in
        let j = mul_rises a b b (finite_times x y f g) (finite_times y y g g) k (le_trans h k) in
        le_trans i (le_trans (le_of_eq (ap place (mul_turn y x))) j)

    go : (y ≡ inf true) ⊎ ((y ≡ inf false) ⊎ T (finite y)) → (x ≡ inf true) ⊎ ((x ≡ inf false) ⊎ T (finite x)) → place (mul binary64 x x) ≤ place (mul binary64 y y)
    go (inl e) q = let i = inf_place true in let u = ap place e in absurd (omega arith)
    go (inr (inl e)) q =
        let r = square_real y b.real in
        le_trans (place_most (product x x (square_real x a.real)))
        (le_of_eq (sym (ap place (ap (λ (z : Float). mul binary64 z y) e ∙ inf_times false y b.held (le_trans h k) (subst (λ (z : Float). Real z y) e r)))))
    go (inr (inr g)) (inl e) = let i = inf_place true in let u = ap place e in absurd (omega arith)
    go (inr (inr g)) (inr (inl e)) = let w = (within y b.held g).1 in let u = ap place e in absurd (omega arith)
    go (inr (inr g)) (inr (inr f)) = both f g

pub square_falls : {x y : Float} → Number x → Number y → place x ≤ sign_bit → place y ≤ place x → place (mul binary64 x x) ≤ place (mul binary64 y y)
square_falls {x} {y} a b h k =
    let i = neg_place a in
    let j = neg_place b in
    let l = square_rises (neg_number a) (neg_number b) (omega arith) (omega arith) in
    let u = ap place (mul_both x x) in
    let v = ap place (mul_both y y) in
    omega arith

-- ---- a product of two numbers is a NaN only where one is an infinity and the other zero
zero_digits : (s : Bool) (m : ℕ) (e : ℤ) → T (fits binary64 (fin s m e)) → m ≡ 0 → place (fin s m e) ≡ sign_bit
unfolding of_bits eq
zero_digits s m e f z = eqb→eq (place (fin s m e)) (place (of_bits binary64 0)) (subst T (sym like ∙ eq_is {x = fin s m e} (record { held = f; real = unfold is_nan in tt }) zero_number) tt) ∙ zero_place
  where
    level_zero : (s : Bool) (a b : ℕ) → a ≡ 0 → b ≡ 0 → level s a false b ≡ true
    level_zero true a b p q = rw (p, q) refl
    level_zero false a b p q = rw (p, q) refl

    like : eq (fin s m e) (of_bits binary64 0) ≡ true
    like = level_zero s (m * up e * 1) (0 * 1 * down e) (ap (λ (k : ℕ). k * up e * 1) z ∙ ap (λ (k : ℕ). k * 1) (zero-mul (up e))) (zero-mul (down e))

real_if : (z s : Bool) → T (not z) → T (not (is_nan (cond z nan (inf s))))
unfolding is_nan
real_if true s h = absurd h
real_if false s h = tt

-- an infinity times a number that is not zero
inf_real : (s : Bool) (y : Float) → Number y → (place y ≡ sign_bit → ⊥) → Real (inf s) y
unfolding mul is_nan
inf_real s nan b n = absurd b.real
inf_real s (inf t) b n = tt
inf_real s (fin t k d) b n = real_if (eqb k 0) (unlike s t) (not_T (eqb k 0) (λ e. n (zero_digits t k d b.held (eqb→eq k 0 e))))

pub nan_times : (x y : Float) → Number x → Number y → T (is_nan (mul binary64 x y)) → (((x ≡ inf true) ⊎ (x ≡ inf false)) × (place y ≡ sign_bit)) ⊎ (((y ≡ inf true) ⊎ (y ≡ inf false)) × (place x ≡ sign_bit))
nan_times x y a b n = go (kind x a.real) (kind y b.real)
  where
    at_zero : (s : Bool) (z : Float) → Number z → T (is_nan (mul binary64 (inf s) z)) → place z ≡ sign_bit
    at_zero s z c n = elim (same (place z) sign_bit) [ inl e ↦ e | inr d ↦ absurd (T_not (is_nan (mul binary64 (inf s) z)) (inf_real s z c d) n) ]

    turned_nan : T (is_nan (mul binary64 y x))
    turned_nan = subst (λ (z : Float). T (is_nan z)) (mul_turn x y) n

    go : (x ≡ inf true) ⊎ ((x ≡ inf false) ⊎ T (finite x)) → (y ≡ inf true) ⊎ ((y ≡ inf false) ⊎ T (finite y)) → (((x ≡ inf true) ⊎ (x ≡ inf false)) × (place y ≡ sign_bit)) ⊎ (((y ≡ inf true) ⊎ (y ≡ inf false)) × (place x ≡ sign_bit))
    go (inl e) q = inl (inl e, at_zero true y b (subst (λ (z : Float). T (is_nan (mul binary64 z y))) e n))
    go (inr (inl e)) q = inl (inr e, at_zero false y b (subst (λ (z : Float). T (is_nan (mul binary64 z y))) e n))
    go (inr (inr k)) (inl e) = inr (inl e, at_zero true x a (subst (λ (z : Float). T (is_nan (mul binary64 z x))) e turned_nan))
    go (inr (inr k)) (inr (inl e)) = inr (inr e, at_zero false x a (subst (λ (z : Float). T (is_nan (mul binary64 z x))) e turned_nan))
    go (inr (inr k)) (inr (inr l)) = absurd (T_not (is_nan (mul binary64 x y)) (finite_times x y k l) n)

-- an infinity times what is not above zero
pub inf_turns : (s : Bool) (y : Float) → Number y → place y ≤ sign_bit → Real (inf s) y → mul binary64 (inf s) y ≡ inf (not s)
inf_turns s y b h r =
    let i = neg_place b in
    let m = inf_times s (neg y) (neg_number b).held (omega arith) (turned_real (inf s) y r) in
    sym (neg_twice (mul binary64 (inf s) y)) ∙ ap neg (sym (mul_neg (inf s) y) ∙ m) ∙ (unfold neg in refl)
