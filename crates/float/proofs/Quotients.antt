-- 1 / x of an x above zero: it rounds the exact one, 2 ^ 2148 / x units of 2 ^ -1074, so a step up or down lies beyond that; and a greater x gives no more, infinities included. Assumes nothing.
use mathlib.Core.Path.{◌≡◌, refl, sym, ap, ◌∙◌, subst}
use mathlib.Core.Logic.{◌⊎◌, inl, inr}
use mathlib.Core.Bool.{true, false, not}
use Prim.Native.Nat.{ℕ, ◌+◌, ◌*◌, ◌^◌, ◌≤◌, ◌<◌}
use native.Mathlib.Nat.{le_trans, le_of_eq, zero-mul, mul-le-mul_right, mul-pos}
use native.Mathlib.Omega.{arith}
use lib.Dec.{T, eqb, eqb→eq, not_T}
use lib.IntN.{ℤ}
use lib.Ieee.{Float, nan, inf, fin, binary64, up, down, is_nan, round, fits, div, of_bits}
use lib.Ieee.Bits.{cond_no}
use lib.Ieee.Fits.{up_pos, down_pos, div-fits}
use lib.Ieee.Scale.{round_same}
use Rattle.float.specs.Float.{sign_bit, next_up, next_down, finite}
use Rattle.float.specs.Exact.{plus, minus}
use Rattle.float.proofs.Facts.{no, round_no_nan}
use Rattle.float.proofs.Rounded.{Rounded, rounded_up, rounded_down, whole, whole_is}
use Rattle.float.proofs.Places.{place, inf_place, kind, within, side, Number, place_units}
use Rattle.float.proofs.Sums.{nought_place, above_zero, rounded_place, unit_up}

-- 1.0 / x
abbrev pub over : Float → Float
over x = div binary64 (of_bits binary64 0x3ff0_0000_0000_0000) x

-- ---- x = n * up d / down d is finite, and w units
module _ (n : ℕ) (d : ℤ) (e : whole n d * down d ≡ n * up d * 2 ^ 1074) (h : 0 < whole n d) where
  digits : 0 < n
  digits = elim (side 0 n) [ inl l ↦ l | inr l ↦ absurd (clash (mul-pos h (down_pos d)) (e ∙ ap (λ (k : ℕ). k * up d * 2 ^ 1074) (none n l) ∙ ap (λ (k : ℕ). k * 2 ^ 1074) (zero-mul (up d)) ∙ zero-mul (2 ^ 1074))) ]
    where
      none : (n : ℕ) → n ≤ 0 → n ≡ 0
      none n l = omega arith

      clash : {x : ℕ} → 0 < x → x ≡ 0 → ⊥
      clash h e = omega arith

  rounded_fin : over (fin false n d) ≡ round binary64 false (2 ^ 1074) (whole n d)
  unfolding div of_bits
  rounded_fin =
      cond_no (eqb n 0) _ _ (not_T (eqb n 0) (λ t. clash digits (eqb→eq n 0 t)))
      ∙ round_same binary64 false (1 * 1 * down d) (n * up d * 1) (2 ^ 1074) (whole n d) (mul-pos (mul-pos digits (up_pos d)) (omega arith)) h (fraction n (up d) (down d) (whole n d) (2 ^ 1074) e)
    where
      clash : {x : ℕ} → 0 < x → x ≡ 0 → ⊥
      clash h e = omega arith

      fraction : (n u d w l : ℕ) → w * d ≡ n * u * l → 1 * 1 * d * w ≡ l * (n * u * 1)
      fraction n u d w l e = omega (arith, e)

-- so 1 / x rounds 2 ^ 1074 / w, which is 2 ^ 2148 / w units
pub record Inverted (x : Float) : Type 0 where
  pub size_pos : 0 < plus x
  pub no_minus : minus x ≡ 0
  pub is : over x ≡ round binary64 false (2 ^ 1074) (plus x)

pub inverted : (x : Float) → T (fits binary64 x) → T (finite x) → sign_bit < place x → Inverted x
inverted nan f k h = absurd k
inverted (inf s) f k h = absurd k
inverted (fin true n d) f k h = let u = unit_up (fin true n d) f k h in absurd (omega arith)
inverted (fin false n d) f k h =
    let u : 0 < whole n d = unit_up (fin false n d) f k h in
    record { size_pos = u; no_minus = refl; is = rounded_fin n d (whole_is false n d f) u }

rounded : {x : Float} → Inverted x → Rounded (over x) (2 ^ 1074 * 2 ^ 1074) 0 (plus x)
rounded I = record { sign = false; size = 2 ^ 1074; is = I.is; exact = exact (2 ^ 1074) }
  where
    exact : (l : ℕ) → l * l + 0 ≡ 0 * l + l * l
    exact l = omega arith

-- ---- stepped, it lies beyond the exact one
module _ (x : Float) (f : T (fits binary64 x)) (k : T (finite x)) (h : sign_bit < place x) (F : T (finite (over x))) where
  pub over_up : T (finite (next_up (over x))) → 2 ^ 1074 * 2 ^ 1074 + minus (next_up (over x)) * plus x ≤ plus (next_up (over x)) * plus x
  over_up G = let I = inverted x f k h in bare (2 ^ 1074 * 2 ^ 1074) (minus (next_up (over x)) * plus x) (plus (next_up (over x)) * plus x) (rounded_up (rounded I) I.size_pos F G)
    where
      bare : (l m p : ℕ) → l + m ≤ p + 0 → l + m ≤ p
      bare l m p g = omega arith

  pub over_down : T (finite (next_down (over x))) → plus (next_down (over x)) * plus x ≤ 2 ^ 1074 * 2 ^ 1074 + minus (next_down (over x)) * plus x
  over_down G = let I = inverted x f k h in bare (2 ^ 1074 * 2 ^ 1074) (minus (next_down (over x)) * plus x) (plus (next_down (over x)) * plus x) (rounded_down (rounded I) I.size_pos F G)
    where
      bare : (l m p : ℕ) → p + 0 ≤ l + m → p ≤ l + m
      bare l m p g = omega arith

-- ---- of any x above zero it is a number, and not below zero
over_inf : place (over (inf false)) ≡ sign_bit
unfolding div of_bits
over_inf = nought_place

inf_real : T (not (is_nan (over (inf false))))
unfolding div of_bits is_nan
inf_real = tt

module _ {x : Float} (a : Number x) (h : sign_bit < place x) where
  pub over_number : Number (over x)
  over_number = record { held = div-fits binary64 _ x; real = go (kind x a.real) }
    where
      go : (x ≡ inf true) ⊎ ((x ≡ inf false) ⊎ T (finite x)) → T (not (is_nan (over x)))
      go (inl e) = let i = inf_place true in let u = ap place e in absurd (omega arith)
      go (inr (inl e)) = subst (λ (z : Float). T (not (is_nan (over z)))) (sym e) inf_real
      go (inr (inr k)) = subst (λ (z : Float). T (not (is_nan z))) (sym (inverted x a.held k h).is) (no (round_no_nan binary64 false (2 ^ 1074) (plus x)))

  over_least : sign_bit ≤ place (over x)
  over_least = go (kind x a.real)
    where
      go : (x ≡ inf true) ⊎ ((x ≡ inf false) ⊎ T (finite x)) → sign_bit ≤ place (over x)
      go (inl e) = let i = inf_place true in let u = ap place e in absurd (omega arith)
      go (inr (inl e)) = le_of_eq (sym (ap (λ (z : Float). place (over z)) e ∙ over_inf))
      go (inr (inr k)) = let I = inverted x a.held k h in subst (λ (z : Float). sign_bit ≤ place z) (sym I.is) (above_zero (2 ^ 1074) (plus x) I.size_pos)

-- ---- a greater x gives no more
pub over_falls : {x y : Float} → Number x → Number y → sign_bit < place x → place x ≤ place y → place (over y) ≤ place (over x)
over_falls {x} {y} a b h k = go (kind x a.real) (kind y b.real)
  where
    both : T (finite x) → T (finite y) → place (over y) ≤ place (over x)
    both f g =
        let I = inverted x a.held f h in
        let J = inverted y b.held g (le_trans h k) in
        rounded_place (rounded J) (rounded I) J.size_pos I.size_pos
        (wider (2 ^ 1074 * 2 ^ 1074) (plus x) (minus x) (plus y) (minus y) I.no_minus J.no_minus (place_units x y a.held b.held f g k))
      where
        wider : (l p n q m : ℕ) → n ≡ 0 → m ≡ 0 → p + m ≤ q + n → l * p + 0 * q ≤ l * q + 0 * p
        wider l p n q m e f h = omega (arith, mul-le-mul_right l (less p n q m e f h))
          where
            less : (p n q m : ℕ) → n ≡ 0 → m ≡ 0 → p + m ≤ q + n → p ≤ q
            less p n q m e f h = omega arith

    go : (x ≡ inf true) ⊎ ((x ≡ inf false) ⊎ T (finite x)) → (y ≡ inf true) ⊎ ((y ≡ inf false) ⊎ T (finite y)) → place (over y) ≤ place (over x)
    go p (inr (inl e)) = le_trans (le_of_eq (ap (λ (z : Float). place (over z)) e ∙ over_inf)) (over_least a h)
    go p (inl e) = let i = inf_place true in let u = ap place e in absurd (omega arith)
    go (inl e) (inr (inr g)) = let i = inf_place true in let u = ap place e in absurd (omega arith)
    go (inr (inl e)) (inr (inr g)) = let w = (within y b.held g).1 in let u = ap place e in absurd (omega arith)
    go (inr (inr f)) (inr (inr g)) = both f g
