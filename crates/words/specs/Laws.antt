-- Bytes and numbers: each gives back the other.
use Rattle.std.specs.Prelude.{◌≡◌, refl, List, [], ◌∷◌, ℕ, zero, suc, ◌+◌, ◌*◌, ◌/◌, ◌%◌, ◌^◌, ◌≤◌, ◌<◌, ◌-◌, length, take, drop, get_or, set, Float, T}
use Rattle.std.proofs.Common.{sym, ap, ◌∙◌, arith, add-one, length-drop, drop_of_length-le, get_or-drop, drop-drop}
use Rattle.std.proofs.Math.ListN.{get_or-eq_default}
use Rattle.std.proofs.lemmas.List.Edits.{sets}
use Rattle.std.specs.Float.{binary64}
use Rattle.std.specs.Float.Ieee.{fits, to_bits, of_bits}
use Rattle.std.specs.Float.Ieee.Bits.{of_bits-to_bits, to_bits-lt}
use Rattle.words.specs.Little.{little, digits, index_at, word_at, float_bytes}

pub length_digits : (n x : ℕ) → length (digits n x) ≡ n
unfolding digits
length_digits zero x = refl
length_digits (suc n) x = ap suc (length_digits n (x / 256))

-- the bytes of a number stand for it
pub little_digits : (n x : ℕ) → x < 256 ^ n → little (digits n x) ≡ x
unfolding little digits
little_digits zero x h = omega arith
little_digits (suc n) x h = omega (arith, little_digits n (x / 256) (omega arith))

-- the first byte, and the number of the rest
little_next : (n : ℕ) (s : List ℕ) → little (take (suc n) s) ≡ get_or s 0 0 + 256 * little (take n (drop 1 s))
unfolding little
little_next zero [] = refl
little_next (suc n) [] = refl
little_next zero (b ∷ s) = refl
little_next (suc n) (b ∷ s) = refl

-- the same from byte i on
little_from : (s : List ℕ) (n i : ℕ) → little (take (suc n) (drop i s)) ≡ get_or s i 0 + 256 * little (take n (drop (suc i) s))
little_from s n i =
    little_next n (drop i s)
    ∙ ap (λ b. b + 256 * little (take n (drop 1 (drop i s)))) (get_or-drop i s 0 0 ∙ ap (λ k. get_or s k 0) (omega arith))
    ∙ ap (λ r. get_or s i 0 + 256 * little (take n r)) (drop-drop 1 i s ∙ ap (λ k. drop k s) (add-one i))

little_last : (s : List ℕ) (i : ℕ) → little (take 1 (drop i s)) ≡ get_or s i 0
unfolding little
little_last s i = little_from s 0 i ∙ omega arith

-- ---- a byte, an index and a word at a place, in the words of the code

pub byte_none : (l : List ℕ) (at i : ℕ) → length l ≤ at → 0 ≡ get_or (drop at l) i 0
byte_none l at i h = rw (drop_of_length-le l h) refl

pub byte_past : (l : List ℕ) (at i : ℕ) → length l - at ≤ i → 0 ≡ get_or (drop at l) i 0
byte_past l at i h = sym (get_or-eq_default (drop at l) 0 (omega (arith, length-drop at l)))

pub byte_here : (l : List ℕ) (at i : ℕ) → get_or l (at + i) 0 ≡ get_or (drop at l) i 0
byte_here l at i = sym (get_or-drop at l i 0)

pub index_is : (l : List ℕ) (at : ℕ) → index_at l at ≡ get_or (drop at l) 0 0 + 256 * get_or (drop at l) 1 0
unfolding index_at
index_is l at = rw (little_from (drop at l) 1 0, little_last (drop at l) 1) refl

pub word_is : (l : List ℕ) (at : ℕ) → let s = drop at l in
    word_at l at ≡ get_or s 0 0 + 256 * (get_or s 1 0 + 256 * (get_or s 2 0 + 256 * (get_or s 3 0 + 256 * (get_or s 4 0 + 256 * (get_or s 5 0 + 256 * (get_or s 6 0 + 256 * get_or s 7 0))))))
unfolding word_at
word_is l at =
    let s = drop at l in
    rw (little_from s 7 0, little_from s 6 1, little_from s 5 2, little_from s 4 3, little_from s 3 4, little_from s 2 5, little_from s 1 6, little_last s 7) refl

-- ---- the bytes of a number, one more in a turn

pub digits_more : (out : List ℕ) (at n x i : ℕ) → i < n → sets out (at + i) (digits (n - i) x) ≡ sets (set out (at + i) (x % 256)) (at + (i + 1)) (digits (n - (i + 1)) (x / 256))
unfolding digits
digits_more out at n x i h =
    let e : n - i ≡ suc (n - (i + 1)) = omega arith in
    let k : suc (at + i) ≡ at + (i + 1) = omega arith in
    rw (e, ← k) refl

pub digits_all : (out : List ℕ) (at n x i : ℕ) → n ≤ i → sets out (at + i) (digits (n - i) x) ≡ out
unfolding digits
digits_all out at n x i h = let e : n - i ≡ 0 = omega arith in rw e refl

-- ---- an f64's bytes

pub length_float : (x : Float) → length (float_bytes x) ≡ 8
unfolding float_bytes
length_float x = length_digits 8 (to_bits binary64 x)

-- the bytes of a value that the format holds are read as that value, a NaN as a NaN
pub float_back : (x : Float) → T (fits binary64 x) → of_bits binary64 (little (float_bytes x)) ≡ x
unfolding float_bytes
float_back x h = ap (of_bits binary64) (little_digits 8 (to_bits binary64 x) (to_bits-lt binary64 x h)) ∙ of_bits-to_bits binary64 x h
