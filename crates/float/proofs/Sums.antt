-- Rounding keeps the order of the exact numbers, so a sum of greater numbers is not less, and a difference has the sign of the exact one. Assumes nothing.
use mathlib.Core.Path.{◌≡◌, refl, sym, ap, ◌∙◌, subst}
use mathlib.Core.Logic.{◌⊎◌, inl, inr}
use mathlib.Core.Bool.{Bool, true, false, not, cond}
use Prim.Native.Nat.{ℕ, zero, suc, ◌+◌, ◌*◌, ◌^◌, ◌≤◌, ◌<◌}
use native.Mathlib.Nat.{le_trans, add_comm, suc-mul, le_of_eq, mul-le-mul_right, le_of_mul-le-mul_right}
use native.Mathlib.Omega.{arith}
use lib.Dec.{T}
use lib.Pow.{pow_pos}
use lib.IntN.{pos}
use lib.Ieee.{Float, nan, inf, fin, binary64, up, down, is_nan, round, le, lt, fits, neg, add, sub, to_bits, of_bits}
use lib.Ieee.Bits.{of_bits-fits}
use lib.Ieee.Fits.{round-fits, add-fits, neg-fits}
use lib.Ieee.Order.{round_mono}
use lib.Ieee.Scale.{round_same}
use Rattle.float.specs.Float.{sign_bit, finite}
use Rattle.float.specs.Exact.{plus, minus}
use Rattle.float.proofs.Facts.{no, round_no_nan, sum_no_nan}
use Rattle.float.proofs.Rounded.{Rounded, added, other, round_neg, neg_finite, neg_plus}
use Rattle.float.proofs.Places.{place, place_of, inf_place, place_least, place_most, kind, within, Number, le_of, le_at, lt_of, neg_number, number_neg, neg_place, positive_place, negative_place, side, place_units}

rounds : (s : Bool) (a c : ℕ) → Number (round binary64 s a c)
rounds s a c = record { held = round-fits binary64 s a c; real = no (round_no_nan binary64 s a c) }

abbrev pub nought : Float
nought = fin false 0 (pos 0)

pub nought_place : place nought ≡ sign_bit
unfolding place place_of to_bits
nought_place = refl

round_zero : (c : ℕ) → 0 < c → round binary64 false 0 c ≡ nought
round_zero c C = round_same binary64 false 0 c 0 1 C (omega arith) (omega arith) ∙ (unfold round in refl)

turned : (a c : ℕ) → place (round binary64 true a c) + place (round binary64 false a c) ≡ 2 * sign_bit
turned a c = ap (λ (z : Float). place z + place (round binary64 false a c)) (sym (round_neg binary64 false a c)) ∙ neg_place (rounds false a c)

-- ---- rounding keeps the order
module _ (a c b d : ℕ) (C : 0 < c) (D : 0 < d) where
  keeps : a * d ≤ b * c → place (round binary64 false a c) ≤ place (round binary64 false b d)
  keeps h = le_at (rounds false a c) (rounds false b d) (round_mono binary64 a c b d C D h)

  turns : b * c ≤ a * d → place (round binary64 true a c) ≤ place (round binary64 true b d)
  turns h =
      let k : place (round binary64 false b d) ≤ place (round binary64 false a c) = le_at (rounds false b d) (rounds false a c) (round_mono binary64 b d a c D C h) in
      let x = turned a c in
      let y = turned b d in
      omega arith

pub above_zero : (a c : ℕ) → 0 < c → sign_bit ≤ place (round binary64 false a c)
above_zero a c C = subst (λ (n : ℕ). n ≤ place (round binary64 false a c)) (ap place (round_zero 1 (omega arith)) ∙ nought_place) (keeps 0 1 a c (omega arith) C (omega arith))

below_zero : (a c : ℕ) → 0 < c → place (round binary64 true a c) ≤ sign_bit
below_zero a c C =
    let e = turned a c in
    let h = above_zero a c C in
    omega arith

-- over any l, so that `omega` meets no number of hundreds of digits
module _ (l a c p n a' c' p' n' : ℕ) (L : 0 < l) (h : p * c' + n' * c ≤ p' * c + n * c') where
  both_up : a * l + n ≡ 0 * l + p → a' * l + n' ≡ 0 * l + p' → a * c' ≤ a' * c
  both_up e e' = le_of_mul-le-mul_right {m = a * c'} {n = a' * c} {k = l} (let u = ap (λ (z : ℕ). z * c') e in let v = ap (λ (z : ℕ). z * c) e' in omega arith) L

  both_down : 0 * l + n ≡ a * l + p → 0 * l + n' ≡ a' * l + p' → a' * c ≤ a * c'
  both_down e e' = le_of_mul-le-mul_right {m = a' * c} {n = a * c'} {k = l} (let u = ap (λ (z : ℕ). z * c') e in let v = ap (λ (z : ℕ). z * c) e' in omega arith) L

  both_zero : a * l + n ≡ 0 * l + p → 0 * l + n' ≡ a' * l + p' → a * c' + a' * c ≤ 0
  both_zero e e' = le_of_mul-le-mul_right {m = a * c' + a' * c} {n = 0} {k = l} (let u = ap (λ (z : ℕ). z * c') e in let v = ap (λ (z : ℕ). z * c) e' in omega arith) L

pub rounded_place : {r r' : Float} {p n c p' n' c' : ℕ} → Rounded r p n c → Rounded r' p' n' c' → 0 < c → 0 < c' → p * c' + n' * c ≤ p' * c + n * c' → place r ≤ place r'
rounded_place {r} {r'} {p} {n} {c} {p'} {n'} {c'} R R' C C' h =
    subst (λ (z : Float). place z ≤ place r') (sym R.is) (subst (λ (z : Float). place (round binary64 R.sign R.size c) ≤ place z) (sym R'.is) (go R.sign R.size R.exact R'.sign R'.size R'.exact))
  where
    go : (s : Bool) (a : ℕ) → cond s 0 a * 2 ^ 1074 + n ≡ cond s a 0 * 2 ^ 1074 + p → (t : Bool) (b : ℕ) → cond t 0 b * 2 ^ 1074 + n' ≡ cond t b 0 * 2 ^ 1074 + p' → place (round binary64 s a c) ≤ place (round binary64 t b c')
    go false a e false b e' = keeps a c b c' C C' (both_up (2 ^ 1074) a c p n b c' p' n' (pow_pos 1074) h e e')
    go true a e true b e' = turns a c b c' C C' (both_down (2 ^ 1074) a c p n b c' p' n' (pow_pos 1074) h e e')
    go true a e false b e' = le_trans (below_zero a c C) (above_zero b c' C')
    go false a e true b e' =
        let z = both_zero (2 ^ 1074) a c p n b c' p' n' (pow_pos 1074) h e e' in
        let i : a ≡ 0 = none a c' (b * c) C' z in
        le_trans (le_of_eq (ap (λ (k : ℕ). place (round binary64 false k c)) i ∙ ap place (round_zero c C) ∙ nought_place)) (level b c' (none b c (a * c') C (le_trans (le_of_eq (add_comm (b * c) (a * c'))) z)) C')
      where
        none : (x y k : ℕ) → 0 < y → x * y + k ≤ 0 → x ≡ 0
        none zero y k Y h = refl
        none (suc x) y k Y h = absurd (clash (x * y) y k Y (subst (λ (z : ℕ). z + k ≤ 0) (suc-mul x y) h))
          where
            clash : (u y k : ℕ) → 0 < y → u + y + k ≤ 0 → ⊥
            clash u y k Y h = omega arith

        level : (b d : ℕ) → b ≡ 0 → 0 < d → sign_bit ≤ place (round binary64 true b d)
        level b d e D = let t = turned b d in let u : place (round binary64 false b d) ≡ sign_bit = ap (λ (k : ℕ). place (round binary64 false k d)) e ∙ ap place (round_zero d D) ∙ nought_place in omega arith

-- an infinity added is the sum, unless that is a NaN
add_inf : (s : Bool) (y : Float) → T (not (is_nan (add binary64 (inf s) y))) → add binary64 (inf s) y ≡ inf s
unfolding add is_nan
add_inf s nan h = absurd h
add_inf true (inf true) h = refl
add_inf true (inf false) h = absurd h
add_inf false (inf true) h = absurd h
add_inf false (inf false) h = refl
add_inf s (fin t n d) h = refl

inf_add : (x : Float) (t : Bool) → T (not (is_nan (add binary64 x (inf t)))) → add binary64 x (inf t) ≡ inf t
unfolding add is_nan
inf_add nan t h = absurd h
inf_add (inf true) true h = refl
inf_add (inf true) false h = absurd h
inf_add (inf false) true h = absurd h
inf_add (inf false) false h = refl
inf_add (fin s m e) t h = refl

pub add_left : (x y : Float) → T (not (is_nan (add binary64 x y))) → T (not (is_nan x))
unfolding add is_nan
add_left nan y h = h
add_left (inf s) y h = tt
add_left (fin s m e) y h = tt

pub add_right : (x y : Float) → T (not (is_nan (add binary64 x y))) → T (not (is_nan y))
unfolding add is_nan
add_right nan y h = absurd h
add_right (inf s) nan h = h
add_right (inf s) (inf t) h = tt
add_right (inf s) (fin t n d) h = tt
add_right (fin s m e) nan h = h
add_right (fin s m e) (inf t) h = tt
add_right (fin s m e) (fin t n d) h = tt

-- a sum of two numbers is a NaN only where they are the two infinities
pub add_nan : (x y : Float) → T (not (is_nan x)) → T (not (is_nan y)) → T (is_nan (add binary64 x y)) → ((x ≡ inf true) × (y ≡ inf false)) ⊎ ((x ≡ inf false) × (y ≡ inf true))
unfolding add is_nan
add_nan nan y h k n = absurd h
add_nan (inf s) nan h k n = absurd k
add_nan (inf true) (inf true) h k n = absurd n
add_nan (inf true) (inf false) h k n = inl (refl, refl)
add_nan (inf false) (inf true) h k n = inr (refl, refl)
add_nan (inf false) (inf false) h k n = absurd n
add_nan (inf s) (fin t n d) h k m = absurd m
add_nan (fin s m e) nan h k n = absurd k
add_nan (fin s m e) (inf t) h k n = absurd n
add_nan (fin s m e) (fin t n d) h k g = absurd (subst (λ (b : Bool). T b) (sum_no_nan binary64 s (m * up e * down d) t (n * up d * down e) (down e * down d)) g)

-- a finite sum has finite terms
pub finite_add : (x y : Float) → T (finite (add binary64 x y)) → T (finite x) × T (finite y)
unfolding add
finite_add nan y h = absurd h
finite_add (inf s) nan h = absurd h
finite_add (inf true) (inf true) h = absurd h
finite_add (inf true) (inf false) h = absurd h
finite_add (inf false) (inf true) h = absurd h
finite_add (inf false) (inf false) h = absurd h
finite_add (inf s) (fin t n d) h = absurd h
finite_add (fin s m e) nan h = absurd h
finite_add (fin s m e) (inf t) h = absurd h
finite_add (fin s m e) (fin t n d) h = (tt, tt)

pub add_numbers : (x y : Float) → T (fits binary64 x) → T (fits binary64 y) → T (not (is_nan (add binary64 x y))) → Number x × (Number y × Number (add binary64 x y))
add_numbers x y f g h = (record { held = f; real = add_left x y h }, (record { held = g; real = add_right x y h }, record { held = add-fits binary64 x y; real = h }))

pub neg_back : (y : Float) (s : Bool) → neg y ≡ inf s → y ≡ inf (not s)
unfolding neg
neg_back nan s e = cc
neg_back (inf true) s e = cc
neg_back (inf false) s e = cc
neg_back (fin t n d) s e = cc

pub finite_real : (x : Float) → T (finite x) → T (not (is_nan x))
unfolding is_nan
finite_real nan h = h
finite_real (inf s) h = tt
finite_real (fin s m e) h = tt

pub leftmost : (x y : Float) (s : Bool) → x ≡ inf s → T (not (is_nan (add binary64 x y))) → add binary64 x y ≡ inf s
leftmost x y s e r = ap (λ (z : Float). add binary64 z y) e ∙ add_inf s y (subst (λ (z : Float). T (not (is_nan (add binary64 z y)))) e r)

pub rightmost : (x y : Float) (s : Bool) → y ≡ inf s → T (not (is_nan (add binary64 x y))) → add binary64 x y ≡ inf s
rightmost x y s e r = ap (add binary64 x) e ∙ inf_add x s (subst (λ (z : Float). T (not (is_nan (add binary64 x z)))) e r)

-- of two in order, the lower is -infinity, the higher is +infinity, or both are finite
pub between : (x y : Float) → Number x → Number y → place x ≤ place y → (x ≡ inf true) ⊎ ((y ≡ inf false) ⊎ (T (finite x) × T (finite y)))
between x y a b h = go (kind x a.real) (kind y b.real)
  where
    go : (x ≡ inf true) ⊎ ((x ≡ inf false) ⊎ T (finite x)) → (y ≡ inf true) ⊎ ((y ≡ inf false) ⊎ T (finite y)) → (x ≡ inf true) ⊎ ((y ≡ inf false) ⊎ (T (finite x) × T (finite y)))
    go (inl e) q = inl e
    go (inr p) (inr (inl e)) = inr (inl e)
    go (inr (inr k)) (inr (inr l)) = inr (inr (k, l))
    go (inr (inr k)) (inl e) = let w = (within x a.held k).0 in let u = ap place e in absurd (omega arith)
    go (inr (inl e)) (inr (inr l)) = let w = (within y b.held l).1 in let u = ap place e in absurd (omega arith)
    go (inr (inl d)) (inl e) = let i = inf_place true in let j = inf_place false in let u = ap place d in let v = ap place e in absurd (omega arith)

-- ---- a sum of greater numbers is not less
module _ (p n p' n' c c' : ℕ) (h : p + n' ≤ p' + n) where
  over_both : p * c * c' + n' * c' * c ≤ p' * c' * c + n * c * c'
  over_both = let k = mul-le-mul_right (c * c') h in omega arith

add_finite : (x x' y y' : Float) → T (fits binary64 x) → T (fits binary64 x') → T (fits binary64 y) → T (fits binary64 y') → T (finite x) → T (finite x') → T (finite y) → T (finite y')
    → place x ≤ place x' → place y ≤ place y' → place (add binary64 x y) ≤ place (add binary64 x' y')
add_finite x x' y y' f f' g g' k k' l l' h i =
    let A = added x y f g k l in
    let B = added x' y' f' g' k' l' in
    let u = place_units x x' f f' k k' h in
    let v = place_units y y' g g' l l' i in
    rounded_place A.rounded B.rounded A.over_pos B.over_pos (over_both (plus x + plus y) (minus x + minus y) (plus x' + plus y') (minus x' + minus y') A.over B.over (omega arith))

pub add_mono : (x x' y y' : Float) → T (fits binary64 x) → T (fits binary64 x') → T (fits binary64 y) → T (fits binary64 y') → T (not (is_nan (add binary64 x y))) → T (not (is_nan (add binary64 x' y')))
    → T (le x x') → T (le y y') → T (le (add binary64 x y) (add binary64 x' y'))
add_mono x x' y y' f f' g g' r r' h i =
    le_of N.1.1 M.1.1 (go (between x x' N.0 M.0 (le_at N.0 M.0 h)) (between y y' N.1.0 M.1.0 (le_at N.1.0 M.1.0 i)))
  where
    N : Number x × (Number y × Number (add binary64 x y))
    N = add_numbers x y f g r

    M : Number x' × (Number y' × Number (add binary64 x' y'))
    M = add_numbers x' y' f' g' r'

    low : add binary64 x y ≡ inf true → place (add binary64 x y) ≤ place (add binary64 x' y')
    low e = le_trans (le_of_eq (ap place e)) (place_least M.1.1)

    high : add binary64 x' y' ≡ inf false → place (add binary64 x y) ≤ place (add binary64 x' y')
    high e = le_trans (place_most N.1.1) (le_of_eq (sym (ap place e)))

    go : (x ≡ inf true) ⊎ ((x' ≡ inf false) ⊎ (T (finite x) × T (finite x'))) → (y ≡ inf true) ⊎ ((y' ≡ inf false) ⊎ (T (finite y) × T (finite y'))) → place (add binary64 x y) ≤ place (add binary64 x' y')
    go (inl e) b = low (leftmost x y true e r)
    go (inr (inl e)) b = high (leftmost x' y' false e r')
    go (inr (inr k)) (inl e) = low (rightmost x y true e r)
    go (inr (inr k)) (inr (inl e)) = high (rightmost x' y' false e r')
    go (inr (inr k)) (inr (inr l)) = add_finite x x' y y' f f' g g' k.0 k.1 l.0 l.1 (le_at N.0 M.0 h) (le_at N.1.0 M.1.0 i)

-- ---- the sign of a sum is that of the exact one
nought_rounded : Rounded nought 0 0 1
unfolding round
nought_rounded = record { sign = false; size = 0; is = refl; exact = refl }

two_rounded : Rounded (of_bits binary64 2) (2 * 2 ^ 1074) 0 (2 ^ 1074)
unfolding round of_bits
two_rounded = record { sign = false; size = 2; is = refl; exact = refl }

two_place : place (of_bits binary64 2) ≡ sign_bit + 2
unfolding place place_of to_bits of_bits
two_place = refl

module _ {r : Float} (p n : ℕ) {c : ℕ} (R : Rounded r (p * c) (n * c) c) (C : 0 < c) where
  not_above : p ≤ n → place r ≤ sign_bit
  not_above h = le_trans (rounded_place R nought_rounded C (omega arith) (let k = mul-le-mul_right c h in omega arith)) (le_of_eq nought_place)

  not_below : n ≤ p → sign_bit ≤ place r
  not_below h = le_trans (le_of_eq (sym nought_place)) (rounded_place nought_rounded R (omega arith) C (let k = mul-le-mul_right c h in omega arith))

  two_up : 2 + n ≤ p → sign_bit + 2 ≤ place r
  two_up h = le_trans (le_of_eq (sym two_place)) (rounded_place two_rounded R (pow_pos 1074) C (scaled (2 ^ 1074) (mul-le-mul_right (2 ^ 1074 * c) h)))
    where
      scaled : (l : ℕ) → (2 + n) * (l * c) ≤ p * (l * c) → 2 * l * c + n * c * l ≤ p * c * l + 0 * c
      scaled l k = omega arith

-- by the places of both, whose sum is twice that of zero where one is the other's opposite
module _ {x y : Float} (a : Number x) (b : Number y) (r : T (not (is_nan (add binary64 x y)))) where
  pub add_not_above : place x + place y ≤ 2 * sign_bit → place (add binary64 x y) ≤ sign_bit
  add_not_above h = let k = neg_place b in go (between x (neg y) a (neg_number b) (omega arith))
    where
      low : add binary64 x y ≡ inf true → place (add binary64 x y) ≤ sign_bit
      low e = let i = ap place e in let j = inf_place true in omega arith

      go : (x ≡ inf true) ⊎ ((neg y ≡ inf false) ⊎ (T (finite x) × T (finite (neg y)))) → place (add binary64 x y) ≤ sign_bit
      go (inl e) = low (leftmost x y true e r)
      go (inr (inl e)) = low (rightmost x y true (neg_back y false e) r)
      go (inr (inr k)) =
          let l : T (finite y) = subst T (neg_finite y) k.1 in
          let A = added x y a.held b.held k.0 l in
          let q = neg_place b in
          let u = place_units x (neg y) a.held (neg_number b).held k.0 k.1 (omega arith) in
          let w = neg_plus y in
          let w0 = w.0 in
          let w1 = w.1 in
          not_above (plus x + plus y) (minus x + minus y) A.rounded A.over_pos (omega arith)

  pub add_not_below : 2 * sign_bit ≤ place x + place y → sign_bit ≤ place (add binary64 x y)
  add_not_below h = let k = neg_place b in go (between (neg y) x (neg_number b) a (omega arith))
    where
      high : add binary64 x y ≡ inf false → sign_bit ≤ place (add binary64 x y)
      high e = let i = ap place e in let j = inf_place false in omega arith

      go : (neg y ≡ inf true) ⊎ ((x ≡ inf false) ⊎ (T (finite (neg y)) × T (finite x))) → sign_bit ≤ place (add binary64 x y)
      go (inl e) = high (rightmost x y false (neg_back y true e) r)
      go (inr (inl e)) = high (leftmost x y false e r)
      go (inr (inr k)) =
          let l : T (finite y) = subst T (neg_finite y) k.0 in
          let A = added x y a.held b.held k.1 l in
          let q = neg_place b in
          let u = place_units (neg y) x (neg_number b).held a.held k.0 k.1 (omega arith) in
          let w = neg_plus y in
          let w0 = w.0 in
          let w1 = w.1 in
          not_below (plus x + plus y) (minus x + minus y) A.rounded A.over_pos (omega arith)

pub sub_positive : (x y : Float) → T (fits binary64 x) → T (fits binary64 y) → T (lt (of_bits binary64 0) (sub binary64 x y)) → T (lt y x)
unfolding sub
sub_positive x y f g h =
    let s = positive_place (add binary64 x (neg y)) (add-fits binary64 x (neg y)) h in
    let N = add_numbers x (neg y) f (neg-fits binary64 y g) s.0.real in
    let b = number_neg y g N.1.0 in
    let k = neg_place b in
    lt_of b N.0 (elim (side (place y) (place x)) [
      | inl l ↦ l
      | inr l ↦ let u = add_not_above N.0 N.1.0 s.0.real (omega arith) in let v = s.1 in absurd (omega arith)
    ])

pub add_negative : (x y : Float) → T (fits binary64 x) → T (fits binary64 y) → T (lt (add binary64 x y) (of_bits binary64 0)) → T (lt x (neg y))
add_negative x y f g h =
    let s = negative_place (add binary64 x y) (add-fits binary64 x y) h in
    let N = add_numbers x y f g s.0.real in
    let k = neg_place N.1.0 in
    lt_of N.0 (neg_number N.1.0) (elim (side (place x) (place (neg y))) [
      | inl l ↦ l
      | inr l ↦ let u = add_not_below N.0 N.1.0 s.0.real (omega arith) in let v = s.1 in absurd (omega arith)
    ])

-- ---- two numbers on one side of zero: their sum is no NaN, and two places or more from zero
one_place : place (of_bits binary64 1) ≡ sign_bit + 1
unfolding place place_of to_bits of_bits
one_place = refl

pub unit_up : (x : Float) → T (fits binary64 x) → T (finite x) → sign_bit < place x → 1 + minus x ≤ plus x
unfolding of_bits
unit_up x f k h = let e = one_place in let u = place_units (of_bits binary64 1) x (of_bits-fits binary64 1) f tt k (omega arith) in omega arith

pub unit_down : (x : Float) → T (fits binary64 x) → T (finite x) → place x < sign_bit → 1 + plus x ≤ minus x
unit_down x f k h =
    let e = neg_place {x = x} (record { held = f; real = finite_real x k }) in
    let w = neg_plus x in
    let w0 = w.0 in
    let w1 = w.1 in
    let u = unit_up (neg x) (neg-fits binary64 x f) (subst T (sym (neg_finite x)) k) (omega arith) in
    omega arith

-- the sum with an infinity is a NaN only at the other one
inf_real : (s : Bool) (y : Float) → T (not (is_nan y)) → (y ≡ inf (not s) → ⊥) → T (not (is_nan (add binary64 (inf s) y)))
unfolding add is_nan
inf_real s nan h n = h
inf_real true (inf true) h n = tt
inf_real true (inf false) h n = n refl
inf_real false (inf true) h n = n refl
inf_real false (inf false) h n = tt
inf_real s (fin t k d) h n = tt

real_inf : (x : Float) (t : Bool) → T (not (is_nan x)) → (x ≡ inf (not t) → ⊥) → T (not (is_nan (add binary64 x (inf t))))
unfolding add is_nan
real_inf nan t h n = h
real_inf (inf true) true h n = tt
real_inf (inf true) false h n = n refl
real_inf (inf false) true h n = n refl
real_inf (inf false) false h n = tt
real_inf (fin s m e) t h n = tt

module _ {x y : Float} (a : Number x) (b : Number y) where
  finite_sum : T (finite x) → T (finite y) → T (not (is_nan (add binary64 x y)))
  finite_sum k l = let R = (added x y a.held b.held k l).rounded in subst (λ (z : Float). T (not (is_nan z))) (sym R.is) (no (round_no_nan binary64 R.sign R.size _))

  pub positive_real : sign_bit < place x → sign_bit < place y → T (not (is_nan (add binary64 x y)))
  positive_real h i = go (kind x a.real) (kind y b.real)
    where
      low : (z : Float) → sign_bit < place z → z ≡ inf true → ⊥
      low z h e = let u = ap place e in let v = inf_place true in omega arith

      go : (x ≡ inf true) ⊎ ((x ≡ inf false) ⊎ T (finite x)) → (y ≡ inf true) ⊎ ((y ≡ inf false) ⊎ T (finite y)) → T (not (is_nan (add binary64 x y)))
      go (inl e) q = absurd (low x h e)
      go (inr p) (inl e) = absurd (low y i e)
      go (inr (inl e)) (inr q) = subst (λ (z : Float). T (not (is_nan (add binary64 z y)))) (sym e) (inf_real false y b.real (low y i))
      go (inr (inr k)) (inr (inl e)) = subst (λ (z : Float). T (not (is_nan (add binary64 x z)))) (sym e) (real_inf x false a.real (low x h))
      go (inr (inr k)) (inr (inr l)) = finite_sum k l

  pub negative_real : place x < sign_bit → place y < sign_bit → T (not (is_nan (add binary64 x y)))
  negative_real h i = go (kind x a.real) (kind y b.real)
    where
      high : (z : Float) → place z < sign_bit → z ≡ inf false → ⊥
      high z h e = let u = ap place e in let v = inf_place false in omega arith

      go : (x ≡ inf true) ⊎ ((x ≡ inf false) ⊎ T (finite x)) → (y ≡ inf true) ⊎ ((y ≡ inf false) ⊎ T (finite y)) → T (not (is_nan (add binary64 x y)))
      go (inr (inl e)) q = absurd (high x h e)
      go (inl e) q = subst (λ (z : Float). T (not (is_nan (add binary64 z y)))) (sym e) (inf_real true y b.real (high y i))
      go (inr (inr k)) (inr (inl e)) = absurd (high y i e)
      go (inr (inr k)) (inl e) = subst (λ (z : Float). T (not (is_nan (add binary64 x z)))) (sym e) (real_inf x true a.real (high x h))
      go (inr (inr k)) (inr (inr l)) = finite_sum k l

  pub positive_sum : sign_bit < place x → sign_bit < place y → sign_bit + 2 ≤ place (add binary64 x y)
  positive_sum h i = go (kind x a.real) (kind y b.real)
    where
      high : add binary64 x y ≡ inf false → sign_bit + 2 ≤ place (add binary64 x y)
      high e = let u = ap place e in let v = inf_place false in omega arith

      low : (z : Float) → sign_bit < place z → z ≡ inf true → ⊥
      low z h e = let u = ap place e in let v = inf_place true in omega arith

      go : (x ≡ inf true) ⊎ ((x ≡ inf false) ⊎ T (finite x)) → (y ≡ inf true) ⊎ ((y ≡ inf false) ⊎ T (finite y)) → sign_bit + 2 ≤ place (add binary64 x y)
      go (inl e) q = absurd (low x h e)
      go (inr p) (inl e) = absurd (low y i e)
      go (inr (inl e)) (inr q) = high (leftmost x y false e (positive_real h i))
      go (inr (inr k)) (inr (inl e)) = high (rightmost x y false e (positive_real h i))
      go (inr (inr k)) (inr (inr l)) =
          let A = added x y a.held b.held k l in
          let u = unit_up x a.held k h in
          let v = unit_up y b.held l i in
          two_up (plus x + plus y) (minus x + minus y) A.rounded A.over_pos (omega arith)

  pub negative_sum : place x < sign_bit → place y < sign_bit → place (add binary64 x y) + 2 ≤ sign_bit
  negative_sum h i = go (kind x a.real) (kind y b.real)
    where
      low : add binary64 x y ≡ inf true → place (add binary64 x y) + 2 ≤ sign_bit
      low e = let u = ap place e in let v = inf_place true in omega arith

      high : (z : Float) → place z < sign_bit → z ≡ inf false → ⊥
      high z h e = let u = ap place e in let v = inf_place false in omega arith

      go : (x ≡ inf true) ⊎ ((x ≡ inf false) ⊎ T (finite x)) → (y ≡ inf true) ⊎ ((y ≡ inf false) ⊎ T (finite y)) → place (add binary64 x y) + 2 ≤ sign_bit
      go (inr (inl e)) q = absurd (high x h e)
      go (inl e) q = low (leftmost x y true e (negative_real h i))
      go (inr (inr k)) (inr (inl e)) = absurd (high y i e)
      go (inr (inr k)) (inl e) = low (rightmost x y true e (negative_real h i))
      go (inr (inr k)) (inr (inr l)) =
          let A = added x y a.held b.held k l in
          let u = unit_down x a.held k h in
          let v = unit_down y b.held l i in
          let t = two_up (minus x + minus y) (plus x + plus y) (other A.rounded) A.over_pos (omega arith) in
          let w = neg_place {x = add binary64 x y} (record { held = add-fits binary64 x y; real = negative_real h i }) in
          omega arith
