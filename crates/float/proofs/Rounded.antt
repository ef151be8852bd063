-- One account for every operation: r is the rounding of the exact number (p - n) / c units, so nextUp r is at least that number and nextDown r at most. Assumes nothing.
use mathlib.Core.Path.{◌≡◌, refl, sym, ap, ◌∙◌, subst}
use mathlib.Core.Bool.{Bool, true, false, not, ◌&&◌, cond}
use Prim.Native.Nat.{ℕ, zero, suc, ◌+◌, ◌-◌, ◌*◌, ◌/◌, ◌^◌, ◌≤◌, ◌<◌}
use native.Mathlib.Nat.{mul-zero, add-zero, zero-add, le_trans, le_of_eq, le_of_lt, mul_assoc, mul_comm, mul_right_comm, mul-mul-mul_comm, le_of_mul-le-mul_right, mul-pos, mul-div_cancel, zero-mul, add-mul, mul-sub, mul-le-mul_right}
use native.Mathlib.Omega.{arith}
use lib.Dec.{T, ltb, ltb→lt, nltb→le}
use lib.IntN.{ℤ}
use lib.Ieee.{Float, nan, inf, fin, Format, binary64, prec, low, emax, up, down, unlike, odd, units, round, fits, neg, add, mul, sum}
use lib.Ieee.Fits.{down_pos, round_is}
use lib.Ieee.Scale.{round_same}
use lib.Pow.{pow_pos}
use Rattle.float.specs.Float.{next_up, next_down, finite}
use Rattle.float.specs.Exact.{plus, minus, AtMost, AtLeast}
use Rattle.float.proofs.Steps.{val, placed, placed_val}
use Rattle.float.proofs.Rounds.{Above, up_sound}

pub record Rounded (r : Float) (p n c : ℕ) : Type 0 where
  pub sign : Bool
  pub size : ℕ
  pub is : r ≡ round binary64 sign size c
  pub exact : cond sign 0 size * 2 ^ 1074 + n ≡ cond sign size 0 * 2 ^ 1074 + p

-- ---- the other sign
odd_neg : (d : ℕ) (s : Bool) (q k l : ℕ) → neg (odd d s q k l) ≡ odd d (not s) q k l
unfolding odd neg
odd_neg d s zero k l = refl
odd_neg d s (suc q) k l = refl

units_neg : (f : Format) (s : Bool) (q k : ℕ) → neg (units f s q k) ≡ units f (not s) q k
unfolding units
units_neg f s q k = go (ltb (q * 2 ^ k) (2 ^ (low f + suc (emax f))))
  where
    go : (b : Bool) → neg (cond b (odd (suc (prec f)) s q k (low f)) (inf s)) ≡ cond b (odd (suc (prec f)) (not s) q k (low f)) (inf (not s))
    go true = odd_neg (suc (prec f)) s q k (low f)
    go false = unfold neg in refl

pub round_neg : (f : Format) (s : Bool) (a c : ℕ) → neg (round f s a c) ≡ round f (not s) a c
round_neg f s a c = ap neg (round_is f s a c) ∙ units_neg f s _ _ ∙ sym (round_is f (not s) a c)

pub neg_finite : (x : Float) → finite (neg x) ≡ finite x
unfolding neg
neg_finite nan = refl
neg_finite (inf s) = refl
neg_finite (fin s m e) = refl

pub neg_plus : (x : Float) → (plus (neg x) ≡ minus x) × (minus (neg x) ≡ plus x)
unfolding neg
neg_plus nan = (refl, refl)
neg_plus (inf s) = (refl, refl)
neg_plus (fin true m e) = (refl, refl)
neg_plus (fin false m e) = (refl, refl)

swap : (s : Bool) (a : ℕ) → (cond (not s) 0 a ≡ cond s a 0) × (cond (not s) a 0 ≡ cond s 0 a)
swap true a = (refl, refl)
swap false a = (refl, refl)

pub other : {r : Float} {p n c : ℕ} → Rounded r p n c → Rounded (neg r) n p c
other {r} {p} {n} {c} h = record {
  sign = not h.sign;
  size = h.size;
  is = ap neg h.is ∙ round_neg binary64 h.sign h.size c;
  exact = ap (λ (z : ℕ). z * 2 ^ 1074 + p) (swap h.sign h.size).0 ∙ sym h.exact ∙ ap (λ (z : ℕ). z * 2 ^ 1074 + n) (sym (swap h.sign h.size).1);
}

-- ---- the two laws
pub rounded_up : {r : Float} {p n c : ℕ} → Rounded r p n c → 0 < c → T (finite r) → T (finite (next_up r)) → p + minus (next_up r) * c ≤ plus (next_up r) * c + n
rounded_up {r} {p} {n} {c} h C f g =
    let a : Above h.sign h.size c (next_up r) = subst (λ (z : Float). Above h.sign h.size c (next_up z)) (sym h.is) (up_sound h.sign h.size c C (subst (λ (z : Float). T (finite z)) h.is f) (subst (λ (z : Float). T (finite (next_up z))) h.is g)) in
    go (cond h.sign 0 h.size * 2 ^ 1074) (cond h.sign h.size 0 * 2 ^ 1074) p n (minus (next_up r) * c) (plus (next_up r) * c) h.exact a
  where
    go : (x y p n m q : ℕ) → x + n ≡ y + p → x + m ≤ q + y → p + m ≤ q + n
    go x y p n m q e l = omega arith

pub rounded_down : {r : Float} {p n c : ℕ} → Rounded r p n c → 0 < c → T (finite r) → T (finite (next_down r)) → plus (next_down r) * c + n ≤ p + minus (next_down r) * c
unfolding next_down
rounded_down {r} {p} {n} {c} h C f g =
    let u = next_up (neg r) in
    let l : n + minus u * c ≤ plus u * c + p = rounded_up (other h) C (subst (λ (b : Bool). T b) (sym (neg_finite r)) f) (subst (λ (b : Bool). T b) (neg_finite u) g) in
    let w = neg_plus u in
    go n p (minus u * c) (plus u * c) (plus (neg u) * c) (minus (neg u) * c) (ap (λ (z : ℕ). z * c) w.0) (ap (λ (z : ℕ). z * c) w.1) l
  where
    go : (n p m q x y : ℕ) → x ≡ m → y ≡ q → n + m ≤ q + p → x + n ≤ p + y
    go n p m q x y h k l = omega arith

-- ---- the size of a finite value in units, which is whole
abbrev pub whole : ℕ → ℤ → ℕ
whole m e = m * up e * 2 ^ 1074 / down e

pub whole_is : (s : Bool) (m : ℕ) (e : ℤ) → T (fits binary64 (fin s m e)) → whole m e * down e ≡ m * up e * 2 ^ 1074
whole_is s m e f =
    let p = placed s m e f in
    let v = placed_val f p in
    ap (λ (z : ℕ). z / down e * down e) v.1 ∙ ap (λ (z : ℕ). z * down e) (mul-div_cancel (val p.at) (down_pos e)) ∙ sym v.1

sub_mul : (a b k : ℕ) → (a - b) * k ≡ a * k - b * k
sub_mul a b k = mul_comm (a - b) k ∙ mul-sub k a b ∙ ap (λ (z : ℕ). z - k * b) (mul_comm k a) ∙ ap (λ (z : ℕ). a * k - z) (mul_comm k b)

-- ---- a sum: x and y are the sizes over c
abbrev Sum : Bool → ℕ → Bool → ℕ → ℕ → Float → Type 0
Sum s x t y c r = Rounded r (cond s 0 x + cond t 0 y) (cond s x 0 + cond t y 0) c

-- over any l, so that `omega` meets no number of hundreds of digits
module _ (l a b x y : ℕ) (p : a * l ≡ x) (q : b * l ≡ y) where
  joined : (a + b) * l ≡ x + y
  joined = add-mul a b l ∙ ap (λ (z : ℕ). z + b * l) p ∙ ap (λ (z : ℕ). x + z) q

  apart : (a - b) * l ≡ x - y
  apart = sub_mul a b l ∙ ap (λ (z : ℕ). z - b * l) p ∙ ap (λ (z : ℕ). x - z) q

  ordered : b ≤ a → y ≤ x
  ordered h = subst (λ (z : ℕ). z ≤ x) q (subst (λ (z : ℕ). b * l ≤ z) p (mul-le-mul_right l h))

  sum_pp : (a + b) * l + (0 + 0) ≡ 0 * l + (x + y)
  sum_pp = let h = joined in let z = zero-mul l in omega arith

  sum_nn : 0 * l + (x + y) ≡ (a + b) * l + (0 + 0)
  sum_nn = let h = joined in let z = zero-mul l in omega arith

  -- of the signs + and -
  sum_pn : b ≤ a → (a - b) * l + (0 + y) ≡ 0 * l + (x + 0)
  sum_pn g = let h = apart in let i = ordered g in let z = zero-mul l in omega arith

  sum_np : b ≤ a → 0 * l + (x + 0) ≡ (a - b) * l + (0 + y)
  sum_np g = let h = apart in let i = ordered g in let z = zero-mul l in omega arith

  sum_pn' : b ≤ a → (a - b) * l + (y + 0) ≡ 0 * l + (0 + x)
  sum_pn' g = let h = apart in let i = ordered g in let z = zero-mul l in omega arith

  sum_np' : b ≤ a → 0 * l + (0 + x) ≡ (a - b) * l + (y + 0)
  sum_np' g = let h = apart in let i = ordered g in let z = zero-mul l in omega arith

sum_rounded : (s : Bool) (a : ℕ) (t : Bool) (b c x y : ℕ) → a * 2 ^ 1074 ≡ x → b * 2 ^ 1074 ≡ y → Sum s x t y c (sum binary64 s a t b c)
unfolding sum
sum_rounded false a false b c x y p q = record { sign = false; size = a + b; is = refl; exact = sum_pp (2 ^ 1074) a b x y p q }
sum_rounded true a true b c x y p q = record { sign = true; size = a + b; is = refl; exact = sum_nn (2 ^ 1074) a b x y p q }
sum_rounded true a false b c x y p q = go (ltb a b) (ltb→lt a b) (nltb→le a b) (ltb b a) (nltb→le b a)
  where
    go : (k : Bool) → (T k → a < b) → (T (not k) → b ≤ a) → (l : Bool) → (T (not l) → a ≤ b) → Sum true x false y c (cond k (round binary64 false (b - a) c) (round binary64 (true && l) (a - b) c))
    go true f g l r = record { sign = false; size = b - a; is = refl; exact = sum_pn' (2 ^ 1074) b a y x q p (le_of_lt (f tt)) }
    go false f g true r = record { sign = true; size = a - b; is = refl; exact = sum_np (2 ^ 1074) a b x y p q (g tt) }
    go false f g false r = record {
      sign = false;
      size = a - b;
      is = refl;
      exact = ap (λ (z : ℕ). z * 2 ^ 1074 + (x + 0)) (equal a b (g tt) (r tt)) ∙ sum_pn' (2 ^ 1074) b a y x q p (r tt);
    }
      where
        equal : (a b : ℕ) → b ≤ a → a ≤ b → a - b ≡ b - a
        equal a b h k = omega arith
sum_rounded false a true b c x y p q = go (ltb a b) (ltb→lt a b) (nltb→le a b)
  where
    go : (k : Bool) → (T k → a < b) → (T (not k) → b ≤ a) → Sum false x true y c (cond k (round binary64 true (b - a) c) (round binary64 false (a - b) c))
    go true f g = record { sign = true; size = b - a; is = refl; exact = sum_np' (2 ^ 1074) b a y x q p (le_of_lt (f tt)) }
    go false f g = record { sign = false; size = a - b; is = refl; exact = sum_pn (2 ^ 1074) a b x y p q (g tt) }

-- ---- the operations on finite values
plus_is : (s : Bool) (m : ℕ) (e : ℤ) (c : ℕ) → cond s 0 (whole m e * c) ≡ plus (fin s m e) * c
plus_is true m e c = sym (zero-mul c)
plus_is false m e c = refl

minus_is : (s : Bool) (m : ℕ) (e : ℤ) (c : ℕ) → cond s (whole m e * c) 0 ≡ minus (fin s m e) * c
minus_is true m e c = refl
minus_is false m e c = sym (zero-mul c)

-- from p * c + i * c ≤ j * c + n * c
pub cancel : (p n i j c : ℕ) → 0 < c → p * c + i * c ≤ j * c + n * c → p + i ≤ j + n
cancel p n i j c C h = le_of_mul-le-mul_right (le_trans (le_of_eq (add-mul p i c)) (le_trans h (le_of_eq (sym (add-mul j n c))))) C

-- the exact sum, over the denominators
pub record Added (x y : Float) : Type 0 where
  pub over : ℕ
  pub over_pos : 0 < over
  pub rounded : Rounded (add binary64 x y) ((plus x + plus y) * over) ((minus x + minus y) * over) over

pub added : (x y : Float) → T (fits binary64 x) → T (fits binary64 y) → T (finite x) → T (finite y) → Added x y
unfolding add
added (fin s m e) (fin t n d) f g k l =
    let c = down e * down d in
    let ea : m * up e * down d * 2 ^ 1074 ≡ whole m e * c = mul_right_comm (m * up e) (down d) (2 ^ 1074) ∙ ap (λ (z : ℕ). z * down d) (sym (whole_is s m e f)) ∙ mul_assoc (whole m e) (down e) (down d) in
    let eb : n * up d * down e * 2 ^ 1074 ≡ whole n d * c = mul_right_comm (n * up d) (down e) (2 ^ 1074) ∙ ap (λ (z : ℕ). z * down e) (sym (whole_is t n d g)) ∙ mul_assoc (whole n d) (down d) (down e) ∙ ap (λ (z : ℕ). whole n d * z) (mul_comm (down d) (down e)) in
    let p : cond s 0 (whole m e * c) + cond t 0 (whole n d * c) ≡ (plus (fin s m e) + plus (fin t n d)) * c = ap (λ (z : ℕ). z + cond t 0 (whole n d * c)) (plus_is s m e c) ∙ ap (λ (z : ℕ). plus (fin s m e) * c + z) (plus_is t n d c) ∙ sym (add-mul (plus (fin s m e)) (plus (fin t n d)) c) in
    let q : cond s (whole m e * c) 0 + cond t (whole n d * c) 0 ≡ (minus (fin s m e) + minus (fin t n d)) * c = ap (λ (z : ℕ). z + cond t (whole n d * c) 0) (minus_is s m e c) ∙ ap (λ (z : ℕ). minus (fin s m e) * c + z) (minus_is t n d c) ∙ sym (add-mul (minus (fin s m e)) (minus (fin t n d)) c) in
    record {
      over = c;
      over_pos = mul-pos (down_pos e) (down_pos d);
      rounded = subst (λ (z : ℕ). Rounded (sum binary64 s (m * up e * down d) t (n * up d * down e) c) z ((minus (fin s m e) + minus (fin t n d)) * c) c) p
          (subst (λ (z : ℕ). Rounded (sum binary64 s (m * up e * down d) t (n * up d * down e) c) (cond s 0 (whole m e * c) + cond t 0 (whole n d * c)) z c) q
          (sum_rounded s (m * up e * down d) t (n * up d * down e) c (whole m e * c) (whole n d * c) ea eb));
    }
added nan y f g k l = absurd k
added (inf s) y f g k l = absurd k
added (fin s m e) nan f g k l = absurd l
added (fin s m e) (inf t) f g k l = absurd l

-- nextUp of the rounded sum is at least the exact sum, and nextDown at most
pub add_up : (x y : Float) → T (fits binary64 x) → T (fits binary64 y) → T (finite x) → T (finite y) → T (finite (add binary64 x y)) → T (finite (next_up (add binary64 x y)))
    → AtLeast (next_up (add binary64 x y)) (plus x + plus y) (minus x + minus y)
add_up x y f g k l F G = let h = added x y f g k l in cancel (plus x + plus y) (minus x + minus y) (minus (next_up (add binary64 x y))) (plus (next_up (add binary64 x y))) h.over h.over_pos (rounded_up h.rounded h.over_pos F G)

pub add_down : (x y : Float) → T (fits binary64 x) → T (fits binary64 y) → T (finite x) → T (finite y) → T (finite (add binary64 x y)) → T (finite (next_down (add binary64 x y)))
    → AtMost (next_down (add binary64 x y)) (plus x + plus y) (minus x + minus y)
add_down x y f g k l F G = let h = added x y f g k l in cancel (plus (next_down (add binary64 x y))) (minus (next_down (add binary64 x y))) (minus x + minus y) (plus x + plus y) h.over h.over_pos (rounded_down h.rounded h.over_pos F G)

-- ---- a product: the exact one in units of 2 ^ -2148, so the end is multiplied by 2 ^ 1074
abbrev pub times_plus : Float → Float → ℕ
times_plus x y = plus x * plus y + minus x * minus y

abbrev pub times_minus : Float → Float → ℕ
times_minus x y = plus x * minus y + minus x * plus y

module _ (w l x y c : ℕ) (h : w ≡ x * y * c) where
  like₁ : w + (x * 0 + 0 * y) * c ≡ 0 * l + (x * y + 0 * 0) * c
  like₁ = simp (mul-zero, zero-mul, add-zero, zero-add) h

  like₂ : w + (0 * y + x * 0) * c ≡ 0 * l + (0 * 0 + x * y) * c
  like₂ = simp (mul-zero, zero-mul, add-zero, zero-add) h

  other₁ : 0 * l + (x * y + 0 * 0) * c ≡ w + (x * 0 + 0 * y) * c
  other₁ = simp (mul-zero, zero-mul, add-zero, zero-add) (sym h)

  other₂ : 0 * l + (0 * 0 + x * y) * c ≡ w + (0 * y + x * 0) * c
  other₂ = simp (mul-zero, zero-mul, add-zero, zero-add) (sym h)

pub record Multiplied (x y : Float) : Type 0 where
  pub over : ℕ
  pub over_pos : 0 < over
  pub rounded : Rounded (mul binary64 x y) (times_plus x y * over) (times_minus x y * over) (over * 2 ^ 1074)

product : (s t : Bool) (m : ℕ) (e : ℤ) (n : ℕ) (d : ℤ) → m * up e * (n * up d) * 2 ^ 1074 * 2 ^ 1074 ≡ whole m e * whole n d * (down e * down d)
    → cond (unlike s t) 0 (m * up e * (n * up d) * 2 ^ 1074) * 2 ^ 1074 + times_minus (fin s m e) (fin t n d) * (down e * down d)
    ≡ cond (unlike s t) (m * up e * (n * up d) * 2 ^ 1074) 0 * 2 ^ 1074 + times_plus (fin s m e) (fin t n d) * (down e * down d)
product false false m e n d h = like₁ (m * up e * (n * up d) * 2 ^ 1074 * 2 ^ 1074) (2 ^ 1074) (whole m e) (whole n d) (down e * down d) h
product true true m e n d h = like₂ (m * up e * (n * up d) * 2 ^ 1074 * 2 ^ 1074) (2 ^ 1074) (whole m e) (whole n d) (down e * down d) h
product false true m e n d h = other₁ (m * up e * (n * up d) * 2 ^ 1074 * 2 ^ 1074) (2 ^ 1074) (whole m e) (whole n d) (down e * down d) h
product true false m e n d h = other₂ (m * up e * (n * up d) * 2 ^ 1074 * 2 ^ 1074) (2 ^ 1074) (whole m e) (whole n d) (down e * down d) h

pub multiplied : (x y : Float) → T (fits binary64 x) → T (fits binary64 y) → T (finite x) → T (finite y) → Multiplied x y
unfolding mul
multiplied (fin s m e) (fin t n d) f g k l =
    let c = down e * down d in
    let a = m * up e * (n * up d) in
    let L = 2 ^ 1074 in
    let C : 0 < c = mul-pos (down_pos e) (down_pos d) in
    let h : a * L * L ≡ whole m e * whole n d * c = mul_assoc a L L ∙ mul-mul-mul_comm (m * up e) (n * up d) L L ∙ ap (λ (z : ℕ). z * (n * up d * L)) (sym (whole_is s m e f)) ∙ ap (λ (z : ℕ). whole m e * down e * z) (sym (whole_is t n d g)) ∙ mul-mul-mul_comm (whole m e) (down e) (whole n d) (down d) in
    record {
      over = c;
      over_pos = C;
      rounded = record {
        sign = unlike s t;
        size = a * L;
        is = round_same binary64 (unlike s t) a c (a * L) (c * L) C (mul-pos C (pow_pos 1074)) (sym (mul_assoc a c L) ∙ mul_right_comm a c L);
        exact = product s t m e n d h;
      };
    }
multiplied nan y f g k l = absurd k
multiplied (inf s) y f g k l = absurd k
multiplied (fin s m e) nan f g k l = absurd l
multiplied (fin s m e) (inf t) f g k l = absurd l

regroup : (u c l : ℕ) → u * (c * l) ≡ u * l * c
regroup u c l = sym (mul_assoc u c l) ∙ mul_right_comm u c l

pub mul_up : (x y : Float) → T (fits binary64 x) → T (fits binary64 y) → T (finite x) → T (finite y) → T (finite (mul binary64 x y)) → T (finite (next_up (mul binary64 x y)))
    → times_plus x y + minus (next_up (mul binary64 x y)) * 2 ^ 1074 ≤ plus (next_up (mul binary64 x y)) * 2 ^ 1074 + times_minus x y
mul_up x y f g k l F G =
    let h = multiplied x y f g k l in
    let u = next_up (mul binary64 x y) in
    let c = h.over in
    cancel (times_plus x y) (times_minus x y) (minus u * 2 ^ 1074) (plus u * 2 ^ 1074) c h.over_pos
    (subst (λ (z : ℕ). times_plus x y * c + z ≤ plus u * 2 ^ 1074 * c + times_minus x y * c) (regroup (minus u) c (2 ^ 1074))
    (subst (λ (z : ℕ). times_plus x y * c + minus u * (c * 2 ^ 1074) ≤ z + times_minus x y * c) (regroup (plus u) c (2 ^ 1074))
    (rounded_up h.rounded (mul-pos h.over_pos (pow_pos 1074)) F G)))

pub mul_down : (x y : Float) → T (fits binary64 x) → T (fits binary64 y) → T (finite x) → T (finite y) → T (finite (mul binary64 x y)) → T (finite (next_down (mul binary64 x y)))
    → plus (next_down (mul binary64 x y)) * 2 ^ 1074 + times_minus x y ≤ times_plus x y + minus (next_down (mul binary64 x y)) * 2 ^ 1074
mul_down x y f g k l F G =
    let h = multiplied x y f g k l in
    let u = next_down (mul binary64 x y) in
    let c = h.over in
    cancel (plus u * 2 ^ 1074) (minus u * 2 ^ 1074) (times_minus x y) (times_plus x y) c h.over_pos
    (subst (λ (z : ℕ). z + times_minus x y * c ≤ times_plus x y * c + minus u * 2 ^ 1074 * c) (regroup (plus u) c (2 ^ 1074))
    (subst (λ (z : ℕ). plus u * (c * 2 ^ 1074) + times_minus x y * c ≤ times_plus x y * c + z) (regroup (minus u) c (2 ^ 1074))
    (rounded_down h.rounded (mul-pos h.over_pos (pow_pos 1074)) F G)))
