-- Each value of binary64 that is no NaN has a place in one row, from -infinity to +infinity; both zeros have the same. Comparisons are comparisons of places, and nextUp goes one place up. Assumes nothing.
use mathlib.Core.Path.{◌≡◌, refl, sym, ap, ◌∙◌, subst}
use mathlib.Core.Logic.{◌⊎◌, inl, inr}
use mathlib.Core.Bool.{Bool, true, false, not, ◌&&◌, beq, ◌||◌, cond, and-true, and-false}
use Prim.Native.Nat.{ℕ, ◌+◌, ◌-◌, ◌*◌, ◌%◌, ◌^◌, ◌≤◌, ◌<◌}
use native.Mathlib.Nat.{le_trans, le_of_eq, le_of_lt, eq-or-lt_of_le, mul_assoc, mul_comm, mul_right_comm, mul-le-mul_right, le_of_mul-le-mul_right, mul-pos, le_antisymm, lt_irrefl, not-le_of_lt, lt_of_not-le, zero-mul}
use native.Mathlib.Omega.{arith}
use borrow.Author.Tests.{lt-ltb, le-ltb, le-leb, lt-leb, eq-eqb, ne_eqb}
use lib.Dec.{T, leb, ltb, eqb, leb→le, ltb→lt, nltb→le, eqb→eq, T_not}
use lib.Pow.{pow_pos}
use lib.IntN.{ℤ}
use lib.Ieee.{Float, nan, inf, fin, binary64, up, down, below, level, is_nan, lt, eq, le, neg, fits, to_bits, of_bits}
use lib.Ieee.Fits.{down_pos, eq→eqb, neg-fits}
use lib.Ieee.Bits.{is_false, nan_bits_is, of_bits-fits, to_bits-of_bits, to_bits-lt, of_bits-to_bits}
use Rattle.float.specs.Float.{inf_bits, sign_bit, next_bits, next_up, next_down, negative, finite, before}
use Rattle.float.specs.Exact.{plus, minus}
use Rattle.float.proofs.Facts.{plain_back, bits_plain, sign_bit_lem, next_step, next_plain}
use Rattle.float.proofs.Steps.{val, val_mono, Placed, placed, placed_val}
use Rattle.float.proofs.Rounds.{plus_of, minus_of}

-- by the sign and the pattern below it
abbrev pub spot : Bool → ℕ → ℕ
spot s b = cond s (sign_bit - b) (sign_bit + b)

-- by the whole pattern
unfoldable pub place_of : ℕ → ℕ
place_of n = cond (leb sign_bit n) (2 * sign_bit - n) (sign_bit + n)

unfoldable pub place : Float → ℕ
place x = place_of (to_bits binary64 x)

pub side : (a b : ℕ) → (a < b) ⊎ (b ≤ a)
side a b = go (ltb a b) (ltb→lt a b) (nltb→le a b)
  where
    go : (t : Bool) → (T t → a < b) → (T (not t) → b ≤ a) → (a < b) ⊎ (b ≤ a)
    go true f g = inl (f tt)
    go false f g = inr (g tt)

pub same : (a b : ℕ) → (a ≡ b) ⊎ (a ≡ b → ⊥)
same a b = go (eqb a b) (eqb→eq a b) (λ t e. T_not (eqb a b) t (eq→eqb e))
  where
    go : (t : Bool) → (T t → a ≡ b) → (T (not t) → a ≡ b → ⊥) → (a ≡ b) ⊎ (a ≡ b → ⊥)
    go true f g = inl (f tt)
    go false f g = inr (g tt)

pub val_le : (a b : ℕ) → a ≤ b → val a ≤ val b
val_le a b h = elim (eq-or-lt_of_le h) [ inl e ↦ le_of_eq (ap val e) | inr l ↦ le_of_lt (val_mono a b l) ]

-- two fractions over one denominator stand as their sizes do
scaled_le : (a b v w c l : ℕ) → 0 < l → a * l ≡ v * c → b * l ≡ w * c → v ≤ w → a ≤ b
scaled_le a b v w c l L p q h = le_of_mul-le-mul_right (le_trans (le_of_eq p) (le_trans (mul-le-mul_right c h) (le_of_eq (sym q)))) L

scaled_lt : (a b v w c l : ℕ) → 0 < c → a * l ≡ v * c → b * l ≡ w * c → v < w → a < b
scaled_lt a b v w c l C p q h = lt_of_not-le (λ (g : b ≤ a). not-le_of_lt h (le_of_mul-le-mul_right (le_trans (le_of_eq (sym q)) (le_trans (mul-le-mul_right l g) (le_of_eq p))) C))

-- the sizes a and b stand as the patterns i and j do
record Alike (a b i j : ℕ) : Type 0 where
  below : i < j → a < b
  above : j < i → b < a
  under : i ≤ j → a ≤ b
  over : j ≤ i → b ≤ a

alike : (m : ℕ) (e : ℤ) (n : ℕ) (d : ℤ) (i j : ℕ) → m * up e * 2 ^ 1074 ≡ val i * down e → n * up d * 2 ^ 1074 ≡ val j * down d → Alike (m * up e * down d) (n * up d * down e) i j
alike m e n d i j p q =
    let c = down e * down d in
    let C : 0 < c = mul-pos (down_pos e) (down_pos d) in
    let L : 0 < 2 ^ 1074 = pow_pos 1074 in
    let P : m * up e * down d * 2 ^ 1074 ≡ val i * c = mul_right_comm (m * up e) (down d) (2 ^ 1074) ∙ ap (λ (z : ℕ). z * down d) p ∙ mul_assoc (val i) (down e) (down d) in
    let Q : n * up d * down e * 2 ^ 1074 ≡ val j * c = mul_right_comm (n * up d) (down e) (2 ^ 1074) ∙ ap (λ (z : ℕ). z * down e) q ∙ mul_assoc (val j) (down d) (down e) ∙ ap (λ (z : ℕ). val j * z) (mul_comm (down d) (down e)) in
    let a = m * up e * down d in
    let b = n * up d * down e in
    record {
      below = λ h. scaled_lt a b (val i) (val j) c (2 ^ 1074) C P Q (val_mono i j h);
      above = λ h. scaled_lt b a (val j) (val i) c (2 ^ 1074) C Q P (val_mono j i h);
      under = λ h. scaled_le a b (val i) (val j) c (2 ^ 1074) L P Q (val_le i j h);
      over = λ h. scaled_le b a (val j) (val i) c (2 ^ 1074) L Q P (val_le j i h);
    }

-- a size is 0 where its pattern is
size_zero : (m : ℕ) (e : ℤ) (k i : ℕ) → m * up e * 2 ^ 1074 ≡ val i * down e → i ≡ 0 → m * up e * k ≡ 0
size_zero m e k i p h =
    let z : m * up e ≤ 0 = scaled_le (m * up e) 0 (val i) 0 (down e) (2 ^ 1074) (pow_pos 1074) p (zero-mul (2 ^ 1074) ∙ sym (zero-mul (down e))) (le_of_eq (ap val h)) in
    ap (λ (x : ℕ). x * k) (nought (m * up e) z) ∙ zero-mul k
  where
    nought : (x : ℕ) → x ≤ 0 → x ≡ 0
    nought x h = omega arith

size_pos : (m : ℕ) (e : ℤ) (k i : ℕ) → m * up e * 2 ^ 1074 ≡ val i * down e → 0 < k → 0 < i → 0 < m * up e * k
size_pos m e k i p K h = mul-pos (scaled_lt 0 (m * up e) 0 (val i) (down e) (2 ^ 1074) (down_pos e) (zero-mul (2 ^ 1074) ∙ sym (zero-mul (down e))) p (val_mono 0 i h)) K

module _ (a b i j : ℕ) (h : Alike a b i j) (k : i < inf_bits) (l : j < inf_bits) where
  less_pp : ltb a b ≡ ltb (sign_bit + i) (sign_bit + j)
  less_pp = elim (side i j) [
    | inl g ↦ lt-ltb a b (h.below g) ∙ sym (lt-ltb (sign_bit + i) (sign_bit + j) (omega arith))
    | inr g ↦ le-ltb a b (h.over g) ∙ sym (le-ltb (sign_bit + i) (sign_bit + j) (omega arith))
  ]

  less_nn : ltb b a ≡ ltb (sign_bit - i) (sign_bit - j)
  less_nn = elim (side j i) [
    | inl g ↦ lt-ltb b a (h.above g) ∙ sym (lt-ltb (sign_bit - i) (sign_bit - j) (omega arith))
    | inr g ↦ le-ltb b a (h.under g) ∙ sym (le-ltb (sign_bit - i) (sign_bit - j) (omega arith))
  ]

  equal : i ≡ j → a ≡ b
  equal e = le_antisymm (h.under (le_of_eq e)) (h.over (le_of_eq (sym e)))

  differ : (i ≡ j → ⊥) → a ≡ b → ⊥
  differ n e = elim (side i j) [ inl g ↦ let u = h.below g in omega arith | inr g ↦ let u = h.above (strict g) in omega arith ]
    where
      strict : j ≤ i → j < i
      strict g = omega arith

  level_pp : eqb a b ≡ eqb (sign_bit + i) (sign_bit + j)
  level_pp = elim (same i j) [
    | inl e ↦ eq-eqb a b (equal e) ∙ sym (eq-eqb (sign_bit + i) (sign_bit + j) (ap (λ (z : ℕ). sign_bit + z) e))
    | inr n ↦ ne_eqb a b (differ n) ∙ sym (ne_eqb (sign_bit + i) (sign_bit + j) (λ (g : sign_bit + i ≡ sign_bit + j). n (omega arith)))
  ]

  level_nn : eqb a b ≡ eqb (sign_bit - i) (sign_bit - j)
  level_nn = elim (same i j) [
    | inl e ↦ eq-eqb a b (equal e) ∙ sym (eq-eqb (sign_bit - i) (sign_bit - j) (ap (λ (z : ℕ). sign_bit - z) e))
    | inr n ↦ ne_eqb a b (differ n) ∙ sym (ne_eqb (sign_bit - i) (sign_bit - j) (λ (g : sign_bit - i ≡ sign_bit - j). n (omega arith)))
  ]

-- of the signs - and +: both zero, or not
module _ (a b i j : ℕ) (k : i < inf_bits) (l : j < inf_bits) (za : i ≡ 0 → a ≡ 0) (zb : j ≡ 0 → b ≡ 0) (pa : 0 < i → 0 < a) (pb : 0 < j → 0 < b) where
  less_np : ltb 0 (a + b) ≡ ltb (sign_bit - i) (sign_bit + j)
  less_np = elim (side 0 i) [
    | inl g ↦ let u = pa g in lt-ltb 0 (a + b) (omega arith) ∙ sym (lt-ltb (sign_bit - i) (sign_bit + j) (omega arith))
    | inr g ↦ elim (side 0 j) [
      | inl f ↦ let u = pb f in lt-ltb 0 (a + b) (omega arith) ∙ sym (lt-ltb (sign_bit - i) (sign_bit + j) (omega arith))
      | inr f ↦ let u = za (omega arith) in let v = zb (omega arith) in le-ltb 0 (a + b) (omega arith) ∙ sym (le-ltb (sign_bit - i) (sign_bit + j) (omega arith))
    ]
  ]

  opposite : (x y : ℕ) → (i ≡ 0 → j ≡ 0 → x ≡ y) → (0 < i + j → x ≡ y → ⊥) → (eqb a b && eqb a 0) ≡ eqb x y
  opposite x y u0 n0 = elim (side 0 i) [
    | inl g ↦ ap (λ (t : Bool). eqb a b && t) (ne_eqb a 0 (λ (e : a ≡ 0). clash e (pa g))) ∙ and-false (eqb a b) ∙ sym (ne_eqb x y (n0 (omega arith)))
    | inr g ↦ elim (side 0 j) [
      | inl f ↦ let u = za (omega arith) in ap (λ (t : Bool). t && eqb a 0) (ne_eqb a b (λ (e : a ≡ b). clash (sym e ∙ u) (pb f))) ∙ sym (ne_eqb x y (n0 (omega arith)))
      | inr f ↦ let u = za (omega arith) in let v = zb (omega arith) in simp (eq-eqb a b (u ∙ sym v), eq-eqb a 0 u, eq-eqb x y (u0 (omega arith) (omega arith)))
    ]
  ]
    where
      clash : {x : ℕ} → x ≡ 0 → 0 < x → ⊥
      clash e h = omega arith

  level_np : (eqb a b && eqb a 0) ≡ eqb (sign_bit - i) (sign_bit + j)
  level_np = opposite (sign_bit - i) (sign_bit + j) (λ e f. omega arith) (λ g e. omega arith)

  level_pn : (eqb a b && eqb a 0) ≡ eqb (sign_bit + i) (sign_bit - j)
  level_pn = opposite (sign_bit + i) (sign_bit - j) (λ e f. omega arith) (λ g e. omega arith)

-- ---- the place of a finite value, and of an infinity
module _ {s : Bool} {m : ℕ} {e : ℤ} (p : Placed (fin s m e) s) where
  pub fin_place : place (fin s m e) ≡ spot s p.at
  unfolding place place_of
  fin_place = ap (λ (n : ℕ). cond (leb sign_bit n) (2 * sign_bit - n) (sign_bit + n)) p.bits ∙ go s p.at p.inside
    where
      go : (s : Bool) (b : ℕ) → b < inf_bits → cond (leb sign_bit (cond s sign_bit 0 + b)) (2 * sign_bit - (cond s sign_bit 0 + b)) (sign_bit + (cond s sign_bit 0 + b)) ≡ spot s b
      go true b h = ap (λ (t : Bool). cond t (2 * sign_bit - (sign_bit + b)) (sign_bit + (sign_bit + b))) (le-leb sign_bit (sign_bit + b) (omega arith)) ∙ omega arith
      go false b h = ap (λ (t : Bool). cond t (2 * sign_bit - (0 + b)) (sign_bit + (0 + b))) (lt-leb sign_bit (0 + b) (omega arith)) ∙ omega arith

pub inf_place : (s : Bool) → place (inf s) ≡ spot s inf_bits
unfolding place place_of to_bits
inf_place true = refl
inf_place false = refl

ends : (x : Float) → T (fits binary64 x) → T (not (is_nan x)) → (place (inf true) ≤ place x) × (place x ≤ place (inf false))
unfolding is_nan
ends nan f h = absurd h
ends (inf true) f h = let i = inf_place true in let j = inf_place false in omega arith
ends (inf false) f h = let i = inf_place true in let j = inf_place false in omega arith
ends (fin s m e) f h = let p = placed s m e f in let i = inf_place true in let j = inf_place false in go s p.at (fin_place p) p.inside i j
  where
    go : (s : Bool) (b : ℕ) {x l r : ℕ} → x ≡ spot s b → b < inf_bits → l ≡ spot true inf_bits → r ≡ spot false inf_bits → (l ≤ x) × (x ≤ r)
    go true b h k i j = omega arith
    go false b h k i j = omega arith

-- ---- lt and eq by place
below_is : (s t : Bool) (m : ℕ) (e : ℤ) (n : ℕ) (d : ℤ) (i j : ℕ) → i < inf_bits → j < inf_bits → m * up e * 2 ^ 1074 ≡ val i * down e → n * up d * 2 ^ 1074 ≡ val j * down d
    → below s (m * up e * down d) t (n * up d * down e) ≡ ltb (spot s i) (spot t j)
below_is false false m e n d i j k l p q = less_pp (m * up e * down d) (n * up d * down e) i j (alike m e n d i j p q) k l
below_is true true m e n d i j k l p q = less_nn (m * up e * down d) (n * up d * down e) i j (alike m e n d i j p q) k l
below_is false true m e n d i j k l p q = sym (le-ltb (sign_bit + i) (sign_bit - j) (omega arith))
below_is true false m e n d i j k l p q = less_np (m * up e * down d) (n * up d * down e) i j k l (size_zero m e (down d) i p) (size_zero n d (down e) j q) (size_pos m e (down d) i p (down_pos d)) (size_pos n d (down e) j q (down_pos e))

level_is : (s t : Bool) (m : ℕ) (e : ℤ) (n : ℕ) (d : ℤ) (i j : ℕ) → i < inf_bits → j < inf_bits → m * up e * 2 ^ 1074 ≡ val i * down e → n * up d * 2 ^ 1074 ≡ val j * down d
    → level s (m * up e * down d) t (n * up d * down e) ≡ eqb (spot s i) (spot t j)
level_is false false m e n d i j k l p q = and-true (eqb (m * up e * down d) (n * up d * down e)) ∙ level_pp (m * up e * down d) (n * up d * down e) i j (alike m e n d i j p q) k l
level_is true true m e n d i j k l p q = and-true (eqb (m * up e * down d) (n * up d * down e)) ∙ level_nn (m * up e * down d) (n * up d * down e) i j (alike m e n d i j p q) k l
level_is true false m e n d i j k l p q = level_np (m * up e * down d) (n * up d * down e) i j k l (size_zero m e (down d) i p) (size_zero n d (down e) j q) (size_pos m e (down d) i p (down_pos d)) (size_pos n d (down e) j q (down_pos e))
level_is false true m e n d i j k l p q = level_pn (m * up e * down d) (n * up d * down e) i j k l (size_zero m e (down d) i p) (size_zero n d (down e) j q) (size_pos m e (down d) i p (down_pos d)) (size_pos n d (down e) j q (down_pos e))

pub lt_place : (x y : Float) → T (fits binary64 x) → T (fits binary64 y) → T (not (is_nan x)) → T (not (is_nan y)) → lt x y ≡ ltb (place x) (place y)
unfolding lt is_nan
lt_place nan y f g h k = absurd h
lt_place (inf s) nan f g h k = absurd k
lt_place (inf s) (inf t) f g h k = inf_inf s t ∙ simp (inf_place s, inf_place t)
  where
    inf_inf : (s t : Bool) → (s && not t) ≡ ltb (spot s inf_bits) (spot t inf_bits)
    inf_inf true true = refl
    inf_inf true false = refl
    inf_inf false true = refl
    inf_inf false false = refl
lt_place (inf s) (fin t n d) f g h k = let q = placed t n d g in inf_fin s t q.at q.inside ∙ simp (inf_place s, fin_place q)
  where
    inf_fin : (s t : Bool) (j : ℕ) → j < inf_bits → s ≡ ltb (spot s inf_bits) (spot t j)
    inf_fin true true j l = sym (lt-ltb (spot true inf_bits) (sign_bit - j) (omega arith))
    inf_fin true false j l = sym (lt-ltb (spot true inf_bits) (sign_bit + j) (omega arith))
    inf_fin false true j l = sym (le-ltb (spot false inf_bits) (sign_bit - j) (omega arith))
    inf_fin false false j l = sym (le-ltb (spot false inf_bits) (sign_bit + j) (omega arith))
lt_place (fin s m e) nan f g h k = absurd k
lt_place (fin s m e) (inf t) f g h k = let p = placed s m e f in fin_inf s t p.at p.inside ∙ simp (inf_place t, fin_place p)
  where
    fin_inf : (s t : Bool) (i : ℕ) → i < inf_bits → not t ≡ ltb (spot s i) (spot t inf_bits)
    fin_inf true true i l = sym (le-ltb (sign_bit - i) (spot true inf_bits) (omega arith))
    fin_inf true false i l = sym (lt-ltb (sign_bit - i) (spot false inf_bits) (omega arith))
    fin_inf false true i l = sym (le-ltb (sign_bit + i) (spot true inf_bits) (omega arith))
    fin_inf false false i l = sym (lt-ltb (sign_bit + i) (spot false inf_bits) (omega arith))
lt_place (fin s m e) (fin t n d) f g h k =
    let p = placed s m e f in let q = placed t n d g in
    below_is s t m e n d p.at q.at p.inside q.inside (placed_val f p).1 (placed_val g q).1 ∙ simp (fin_place p, fin_place q)

apart : (s t : Bool) (j : ℕ) → j < inf_bits → spot s inf_bits ≡ spot t j → ⊥
apart true true j l e = omega arith
apart true false j l e = omega arith
apart false true j l e = omega arith
apart false false j l e = omega arith

pub eq_place : (x y : Float) → T (fits binary64 x) → T (fits binary64 y) → T (not (is_nan x)) → T (not (is_nan y)) → eq x y ≡ eqb (place x) (place y)
unfolding eq is_nan
eq_place nan y f g h k = absurd h
eq_place (inf s) nan f g h k = absurd k
eq_place (inf s) (inf t) f g h k = inf_inf s t ∙ simp (inf_place s, inf_place t)
  where
    inf_inf : (s t : Bool) → beq s t ≡ eqb (spot s inf_bits) (spot t inf_bits)
    inf_inf true true = refl
    inf_inf true false = refl
    inf_inf false true = refl
    inf_inf false false = refl
eq_place (inf s) (fin t n d) f g h k = let q = placed t n d g in sym (ne_eqb (spot s inf_bits) (spot t q.at) (apart s t q.at q.inside)) ∙ simp (inf_place s, fin_place q)
eq_place (fin s m e) nan f g h k = absurd k
eq_place (fin s m e) (inf t) f g h k = let p = placed s m e f in sym (ne_eqb (spot s p.at) (spot t inf_bits) (λ e. apart t s p.at p.inside (sym e))) ∙ simp (inf_place t, fin_place p)
eq_place (fin s m e) (fin t n d) f g h k =
    let p = placed s m e f in let q = placed t n d g in
    level_is s t m e n d p.at q.at p.inside q.inside (placed_val f p).1 (placed_val g q).1 ∙ simp (fin_place p, fin_place q)

-- ---- a value of binary64 that is no NaN
pub record Number (x : Float) : Type 0 where
  pub held : T (fits binary64 x)
  pub real : T (not (is_nan x))

pub lt_numbers : (x y : Float) → T (fits binary64 x) → T (fits binary64 y) → T (lt x y) → Number x × Number y
unfolding lt is_nan
lt_numbers nan y f g h = absurd h
lt_numbers (inf s) nan f g h = absurd h
lt_numbers (inf s) (inf t) f g h = (record { held = f; real = tt }, record { held = g; real = tt })
lt_numbers (inf s) (fin t n d) f g h = (record { held = f; real = tt }, record { held = g; real = tt })
lt_numbers (fin s m e) nan f g h = absurd h
lt_numbers (fin s m e) (inf t) f g h = (record { held = f; real = tt }, record { held = g; real = tt })
lt_numbers (fin s m e) (fin t n d) f g h = (record { held = f; real = tt }, record { held = g; real = tt })

eq_numbers : (x y : Float) → T (fits binary64 x) → T (fits binary64 y) → T (eq x y) → Number x × Number y
unfolding eq is_nan
eq_numbers nan y f g h = absurd h
eq_numbers (inf s) nan f g h = absurd h
eq_numbers (inf s) (inf t) f g h = (record { held = f; real = tt }, record { held = g; real = tt })
eq_numbers (inf s) (fin t n d) f g h = absurd h
eq_numbers (fin s m e) nan f g h = absurd h
eq_numbers (fin s m e) (inf t) f g h = absurd h
eq_numbers (fin s m e) (fin t n d) f g h = (record { held = f; real = tt }, record { held = g; real = tt })

pub le_numbers : (x y : Float) → T (fits binary64 x) → T (fits binary64 y) → T (le x y) → Number x × Number y
unfolding le
le_numbers x y f g h = go (lt x y) (lt_numbers x y f g) (eq x y) (eq_numbers x y f g) h
  where
    go : (a : Bool) → (T a → Number x × Number y) → (b : Bool) → (T b → Number x × Number y) → T (a || b) → Number x × Number y
    go true p b q t = p tt
    go false p b q t = q t

module _ {x y : Float} (a : Number x) (b : Number y) where
  pub lt_is : lt x y ≡ ltb (place x) (place y)
  lt_is = lt_place x y a.held b.held a.real b.real

  pub eq_is : eq x y ≡ eqb (place x) (place y)
  eq_is = eq_place x y a.held b.held a.real b.real

  pub le_is : le x y ≡ leb (place x) (place y)
  unfolding le
  le_is = simp (lt_is, eq_is) (go (place x) (place y))
    where
      go : (i j : ℕ) → (ltb i j || eqb i j) ≡ leb i j
      go i j = elim (side i j) [
        | inl h ↦ ap (λ (t : Bool). t || eqb i j) (lt-ltb i j h) ∙ sym (le-leb i j (omega arith))
        | inr h ↦ elim (same i j) [
          | inl e ↦ simp (le-ltb i j h, eq-eqb i j e, le-leb i j (omega arith))
          | inr n ↦ simp (le-ltb i j h, ne_eqb i j n, lt-leb i j (omega arith))
        ]
      ]

  pub lt_of : place x < place y → T (lt x y)
  lt_of h = subst T (sym (lt_is ∙ lt-ltb (place x) (place y) h)) tt

  pub le_of : place x ≤ place y → T (le x y)
  le_of h = subst T (sym (le_is ∙ le-leb (place x) (place y) h)) tt

  pub lt_at : T (lt x y) → place x < place y
  lt_at h = ltb→lt (place x) (place y) (subst T lt_is h)

  pub le_at : T (le x y) → place x ≤ place y
  le_at h = leb→le (place x) (place y) (subst T le_is h)

pub place_least : {x : Float} → Number x → place (inf true) ≤ place x
place_least {x} a = (ends x a.held a.real).0

pub place_most : {x : Float} → Number x → place x ≤ place (inf false)
place_most {x} a = (ends x a.held a.real).1

-- ---- the step of the pattern is one place
step_place : (n : ℕ) → n < 2 * sign_bit → n % sign_bit ≤ inf_bits → (n ≡ inf_bits → ⊥) → place_of (next_bits n) ≡ place_of n + 1
unfolding place_of next_bits
step_place n w h i = elim (side n inf_bits) [
  | inl l ↦ simp (lt-ltb n inf_bits l, lt-leb sign_bit (n + 1) (omega arith), lt-leb sign_bit n (omega arith)) (omega arith)
  | inr l ↦ elim (same n sign_bit) [
    | inl e ↦ simp (e)
    | inr z ↦ simp (le-ltb n inf_bits l, ne_eqb n inf_bits i, ne_eqb n sign_bit z, le-leb sign_bit (n - 1) (omega arith), le-leb sign_bit n (omega arith)) (omega arith)
  ]
]

step_under : (n : ℕ) → n < 2 * sign_bit → next_bits n < 2 * sign_bit
unfolding next_bits
step_under n w = elim (side n inf_bits) [
  | inl l ↦ simp (lt-ltb n inf_bits l) (omega arith)
  | inr l ↦ elim (same n inf_bits) [
    | inl e ↦ simp (e) (omega arith)
    | inr y ↦ elim (same n sign_bit) [
      | inl e ↦ simp (e) (omega arith)
      | inr z ↦ simp (le-ltb n inf_bits l, ne_eqb n inf_bits y, ne_eqb n sign_bit z) (omega arith)
    ]
  ]
]

pub up_number : {x : Float} → Number x → Number (next_up x)
up_number {x} a = record {
  held = subst (λ (z : Float). T (fits binary64 z)) (next_step x (is_false (is_nan x) a.real)) (of_bits-fits binary64 (next_bits (to_bits binary64 x)));
  real = subst (λ (z : Float). T (not (is_nan z))) (next_step x (is_false (is_nan x) a.real)) (subst (λ (t : Bool). T (not t)) (nan_bits_is binary64 (next_bits (to_bits binary64 x))) (next_plain x a.held (is_false (is_nan x) a.real)));
}

pub up_bits : {x : Float} → Number x → to_bits binary64 (next_up x) ≡ next_bits (to_bits binary64 x)
up_bits {x} a =
    let e = next_step x (is_false (is_nan x) a.real) in
    ap (to_bits binary64) (sym e) ∙ to_bits-of_bits binary64 (next_bits (to_bits binary64 x)) (step_under (to_bits binary64 x) (to_bits-lt binary64 x a.held)) (subst (λ (z : Float). T (not (is_nan z))) (sym e) (up_number a).real)

pub up_place : {x : Float} → Number x → place x < place (inf false) → place (next_up x) ≡ place x + 1
unfolding place to_bits
up_place {x} a h =
    ap place_of (up_bits a) ∙ step_place (to_bits binary64 x) (to_bits-lt binary64 x a.held) (plain_back (to_bits binary64 x) (bits_plain x a.held a.real))
    (λ (e : to_bits binary64 x ≡ inf_bits). top (to_bits binary64 x) e h)
  where
    top : (n : ℕ) → n ≡ inf_bits → place_of n < place (inf false) → ⊥
    top n e l = let z : place_of inf_bits < place (inf false) = subst (λ (i : ℕ). place_of i < place (inf false)) e l in lt_irrefl (place (inf false)) z

-- ---- the other sign mirrors the row
pub neg_real : (x : Float) → T (not (is_nan x)) → T (not (is_nan (neg x)))
unfolding neg is_nan
neg_real nan h = h
neg_real (inf s) h = tt
neg_real (fin s m e) h = tt

pub neg_number : {x : Float} → Number x → Number (neg x)
neg_number {x} a = record { held = neg-fits binary64 x a.held; real = neg_real x a.real }

pub real_neg : (x : Float) → T (not (is_nan (neg x))) → T (not (is_nan x))
unfolding neg is_nan
real_neg nan h = h
real_neg (inf s) h = tt
real_neg (fin s m e) h = tt

pub neg_twice : (x : Float) → neg (neg x) ≡ x
unfolding neg
neg_twice nan = refl
neg_twice (inf true) = refl
neg_twice (inf false) = refl
neg_twice (fin true m e) = refl
neg_twice (fin false m e) = refl

pub number_neg : (x : Float) → T (fits binary64 x) → Number (neg x) → Number x
number_neg x f a = record { held = f; real = real_neg x a.real }

tail : (s : Bool) (m : ℕ) (e : ℤ) → to_bits binary64 (fin (not s) m e) + cond s sign_bit 0 ≡ to_bits binary64 (fin s m e) + cond (not s) sign_bit 0
unfolding to_bits
tail true m e = omega arith
tail false m e = omega arith

mirror : (x : Float) → T (fits binary64 x) → T (not (is_nan x)) → place (neg x) + place x ≡ 2 * sign_bit
unfolding neg is_nan
mirror nan f h = absurd h
mirror (inf true) f h = simp (inf_place true, inf_place false)
mirror (inf false) f h = simp (inf_place true, inf_place false)
mirror (fin s m e) f h =
    let p = placed s m e f in
    let q = placed (not s) m e (neg-fits binary64 (fin s m e) f) in
    simp (fin_place p, fin_place q) (go s p.at q.at (tail s m e) p.bits q.bits p.inside)
  where
    go : (s : Bool) (i j : ℕ) {u v : ℕ} → v + cond s sign_bit 0 ≡ u + cond (not s) sign_bit 0 → u ≡ cond s sign_bit 0 + i → v ≡ cond (not s) sign_bit 0 + j → i < inf_bits → spot (not s) j + spot s i ≡ 2 * sign_bit
    go true i j t p q l = omega arith
    go false i j t p q l = omega arith

pub neg_place : {x : Float} → Number x → place (neg x) + place x ≡ 2 * sign_bit
neg_place {x} a = mirror x a.held a.real

pub down_number : {x : Float} → Number x → Number (next_down x)
unfolding next_down
down_number a = neg_number (up_number (neg_number a))

pub down_place : {x : Float} → Number x → place (inf true) < place x → place (next_down x) + 1 ≡ place x
unfolding next_down
down_place {x} a h =
    let b = neg_number a in
    let i = inf_place true in
    let j = inf_place false in
    let k = neg_place a in
    let u : place (next_up (neg x)) ≡ place (neg x) + 1 = up_place b (omega arith) in
    let l = neg_place (up_number b) in
    omega arith

-- ---- totalOrder's row: each place twice, the negative one first
unfoldable pub rank : Float → ℕ
rank x = 2 * place x + cond (negative x) 0 1

pub before_rank : {x y : Float} → Number x → Number y → before x y ≡ ltb (rank x) (rank y)
unfolding rank
before_rank {x} {y} a b = simp (lt_is a b, eq_is a b) (go (place x) (place y) (negative x) (negative y))
  where
    go : (i j : ℕ) (s t : Bool) → (ltb i j || (eqb i j && (s && not t))) ≡ ltb (2 * i + cond s 0 1) (2 * j + cond t 0 1)
    go i j s t = elim (side i j) [
      | inl h ↦ ap (λ (z : Bool). z || (eqb i j && (s && not t))) (lt-ltb i j h) ∙ sym (lt-ltb (2 * i + cond s 0 1) (2 * j + cond t 0 1) (first s t h))
      | inr h ↦ elim (same i j) [
        | inl e ↦ simp (le-ltb i j h, eq-eqb i j e) (equal e s t)
        | inr n ↦ simp (le-ltb i j h, ne_eqb i j n) (sym (le-ltb (2 * i + cond s 0 1) (2 * j + cond t 0 1) (last s t h n)))
      ]
    ]
      where
        first : (s t : Bool) → i < j → 2 * i + cond s 0 1 < 2 * j + cond t 0 1
        first true true h = omega arith
        first true false h = omega arith
        first false true h = omega arith
        first false false h = omega arith

        last : (s t : Bool) → j ≤ i → (i ≡ j → ⊥) → 2 * j + cond t 0 1 ≤ 2 * i + cond s 0 1
        last true true h n = omega arith
        last true false h n = omega arith
        last false true h n = omega arith
        last false false h n = omega arith

        equal : i ≡ j → (s t : Bool) → (s && not t) ≡ ltb (2 * i + cond s 0 1) (2 * j + cond t 0 1)
        equal e true true = sym (le-ltb (2 * i + 0) (2 * j + 0) (omega arith))
        equal e true false = sym (lt-ltb (2 * i + 0) (2 * j + 1) (omega arith))
        equal e false true = sym (le-ltb (2 * i + 1) (2 * j + 0) (omega arith))
        equal e false false = sym (le-ltb (2 * i + 1) (2 * j + 1) (omega arith))

-- two of one rank have one pattern
pub rank_same : {x y : Float} → Number x → Number y → rank x ≡ rank y → x ≡ y
unfolding rank place place_of
rank_same {x} {y} a b h =
    sym (of_bits-to_bits binary64 x a.held)
    ∙ ap (of_bits binary64) (go (to_bits binary64 x) (to_bits binary64 y) (negative x) (negative y) (to_bits-lt binary64 x a.held) (to_bits-lt binary64 y b.held) (sign_bit_lem x a.held a.real) (sign_bit_lem y b.held b.real) h)
    ∙ of_bits-to_bits binary64 y b.held
  where
    go : (n m : ℕ) (s t : Bool) → n < 2 * sign_bit → m < 2 * sign_bit → leb sign_bit n ≡ s → leb sign_bit m ≡ t
        → 2 * cond (leb sign_bit n) (2 * sign_bit - n) (sign_bit + n) + cond s 0 1 ≡ 2 * cond (leb sign_bit m) (2 * sign_bit - m) (sign_bit + m) + cond t 0 1 → n ≡ m
    go n m true true u v p q h = let k = simp (p, q) at h in omega arith
    go n m true false u v p q h = let k = simp (p, q) at h in absurd (odd (2 * sign_bit - n) (sign_bit + m) k)
      where
        odd : (x y : ℕ) → 2 * x + 0 ≡ 2 * y + 1 → ⊥
        odd x y e = omega arith
    go n m false true u v p q h = let k = simp (p, q) at h in absurd (odd (sign_bit + n) (2 * sign_bit - m) k)
      where
        odd : (x y : ℕ) → 2 * x + 1 ≡ 2 * y + 0 → ⊥
        odd x y e = omega arith
    go n m false false u v p q h = let k = simp (p, q) at h in omega arith

-- ---- a finite value in units
own : (s : Bool) (m : ℕ) (e : ℤ) (f : T (fits binary64 (fin s m e))) → (plus (fin s m e) ≡ cond s 0 (val (placed s m e f).at)) × (minus (fin s m e) ≡ cond s (val (placed s m e f).at) 0)
own true m e f = let w = minus_of (fin true m e) (val (placed true m e f).at) (placed_val f (placed true m e f)) in (w.1, w.0)
own false m e f = plus_of (fin false m e) (val (placed false m e f).at) (placed_val f (placed false m e f))

spot_units : (s t : Bool) (i j : ℕ) → i < inf_bits → j < inf_bits → spot s i ≤ spot t j → cond s 0 (val i) + cond t (val j) 0 ≤ cond t 0 (val j) + cond s (val i) 0
spot_units false false i j k l h = let v = val_le i j (omega arith) in omega arith
spot_units true true i j k l h = let v = val_le j i (omega arith) in omega arith
spot_units true false i j k l h = omega arith
spot_units false true i j k l h = let u = ap val (zero_i i j k l h) in let v = ap val (zero_j i j k l h) in omega arith
  where
    zero_i : (i j : ℕ) → i < inf_bits → j < inf_bits → sign_bit + i ≤ sign_bit - j → i ≡ 0
    zero_i i j k l h = omega arith

    zero_j : (i j : ℕ) → i < inf_bits → j < inf_bits → sign_bit + i ≤ sign_bit - j → j ≡ 0
    zero_j i j k l h = omega arith

pub place_units : (x y : Float) → T (fits binary64 x) → T (fits binary64 y) → T (finite x) → T (finite y) → place x ≤ place y → plus x + minus y ≤ plus y + minus x
place_units (fin s m e) (fin t n d) f g k l h =
    let p = placed s m e f in
    let q = placed t n d g in
    let a = own s m e f in
    let b = own t n d g in
    simp (a.0, a.1, b.0, b.1) (spot_units s t p.at q.at p.inside q.inside (subst (λ (z : ℕ). z ≤ spot t q.at) (fin_place p) (subst (λ (z : ℕ). place (fin s m e) ≤ z) (fin_place q) h)))
place_units nan y f g k l h = absurd k
place_units (inf s) y f g k l h = absurd k
place_units (fin s m e) nan f g k l h = absurd l
place_units (fin s m e) (inf t) f g k l h = absurd l

-- and strictly
spot_strict : (s t : Bool) (i j : ℕ) → i < inf_bits → j < inf_bits → spot s i < spot t j → cond s 0 (val i) + cond t (val j) 0 < cond t 0 (val j) + cond s (val i) 0
spot_strict false false i j k l h = let v = val_mono i j (omega arith) in omega arith
spot_strict true true i j k l h = let v = val_mono j i (omega arith) in omega arith
spot_strict true false i j k l h = elim (side 0 i) [
  | inl g ↦ let v = val_mono 0 i g in omega arith
  | inr g ↦ let v = val_mono 0 j (omega arith) in omega arith
]
spot_strict false true i j k l h = absurd (omega arith)

pub place_strict : (x y : Float) → T (fits binary64 x) → T (fits binary64 y) → T (finite x) → T (finite y) → place x < place y → plus x + minus y < plus y + minus x
place_strict (fin s m e) (fin t n d) f g k l h =
    let p = placed s m e f in
    let q = placed t n d g in
    let a = own s m e f in
    let b = own t n d g in
    simp (a.0, a.1, b.0, b.1) (spot_strict s t p.at q.at p.inside q.inside (subst (λ (z : ℕ). z < spot t q.at) (fin_place p) (subst (λ (z : ℕ). place (fin s m e) < z) (fin_place q) h)))
place_strict nan y f g k l h = absurd k
place_strict (inf s) y f g k l h = absurd k
place_strict (fin s m e) nan f g k l h = absurd l
place_strict (fin s m e) (inf t) f g k l h = absurd l

-- ---- zero
pub zero_number : Number (of_bits binary64 0)
unfolding is_nan of_bits
zero_number = record { held = of_bits-fits binary64 0; real = tt }

pub zero_place : place (of_bits binary64 0) ≡ sign_bit
unfolding place place_of to_bits of_bits
zero_place = refl

pub positive_place : (x : Float) → T (fits binary64 x) → T (lt (of_bits binary64 0) x) → Number x × (sign_bit < place x)
positive_place x f h = let b = (lt_numbers (of_bits binary64 0) x zero_number.held f h).1 in let l = lt_at zero_number b h in let e = zero_place in (b, omega arith)

pub negative_place : (x : Float) → T (fits binary64 x) → T (lt x (of_bits binary64 0)) → Number x × (place x < sign_bit)
negative_place x f h = let b = (lt_numbers x (of_bits binary64 0) f zero_number.held h).0 in let l = lt_at b zero_number h in let e = zero_place in (b, omega arith)

-- ---- -infinity, +infinity, or a finite number
pub kind : (x : Float) → T (not (is_nan x)) → (x ≡ inf true) ⊎ ((x ≡ inf false) ⊎ T (finite x))
unfolding is_nan
kind nan h = absurd h
kind (inf true) h = inl refl
kind (inf false) h = inr (inl refl)
kind (fin s m e) h = inr (inr tt)

pub within : (x : Float) → T (fits binary64 x) → T (finite x) → (place (inf true) < place x) × (place x < place (inf false))
within nan f k = absurd k
within (inf s) f k = absurd k
within (fin s m e) f k = let p = placed s m e f in go s p.at (fin_place p) p.inside (inf_place true) (inf_place false)
  where
    go : (s : Bool) (b : ℕ) {x l r : ℕ} → x ≡ spot s b → b < inf_bits → l ≡ spot true inf_bits → r ≡ spot false inf_bits → (l < x) × (x < r)
    go true b h k i j = omega arith
    go false b h k i j = omega arith

-- what is not below +infinity, and not above -infinity
pub top : {x : Float} → Number x → place (inf false) ≤ place x → x ≡ inf false
top {x} a h = go (kind x a.real)
  where
    go : (x ≡ inf true) ⊎ ((x ≡ inf false) ⊎ T (finite x)) → x ≡ inf false
    go (inl e) = let i = inf_place true in let j = inf_place false in let u = ap place e in absurd (omega arith)
    go (inr (inl e)) = e
    go (inr (inr k)) = let w = (within x a.held k).1 in absurd (omega arith)

pub bottom : {x : Float} → Number x → place x ≤ place (inf true) → x ≡ inf true
bottom {x} a h = go (kind x a.real)
  where
    go : (x ≡ inf true) ⊎ ((x ≡ inf false) ⊎ T (finite x)) → x ≡ inf true
    go (inl e) = e
    go (inr (inl e)) = let i = inf_place true in let j = inf_place false in let u = ap place e in absurd (omega arith)
    go (inr (inr k)) = let w = (within x a.held k).0 in absurd (omega arith)

-- ---- a step goes one way, or stays
pub up_moves : {x : Float} → Number x → place x ≤ place (next_up x)
unfolding next_up next_bits is_nan to_bits of_bits
up_moves {x} a = go (kind x a.real)
  where
    go : (x ≡ inf true) ⊎ ((x ≡ inf false) ⊎ T (finite x)) → place x ≤ place (next_up x)
    go (inl e) = let i = ap place e in let j = inf_place true in let k = inf_place false in let u : place (next_up x) ≡ place x + 1 = up_place a (omega arith) in omega arith
    go (inr (inl e)) = le_of_eq (ap place (e ∙ ap next_up (sym e)))
    go (inr (inr k)) = let u = up_place a (within x a.held k).1 in omega arith

pub down_moves : {x : Float} → Number x → place (next_down x) ≤ place x
unfolding next_down
down_moves a = let b = neg_number a in let h = up_moves b in let i = neg_place a in let j = neg_place (up_number b) in omega arith
