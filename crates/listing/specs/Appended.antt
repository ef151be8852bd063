-- A list written into a slice from a place on; the rest is untouched.
use Rattle.std.specs.Prelude.{◌≡◌, refl, ℕ, zero, suc, ◌+◌, ◌-◌, ◌≤◌, ◌<◌, get_or, set}
use Rattle.std.proofs.Math.Path.{sym, ap, ap₂}
use Rattle.std.proofs.Common.{◌∙◌, add-one, length-drop, take-suc, length-take-le, take_at}
use mathlib.Core.List.{List, [], ◌∷◌, ◌++◌, append_assoc}
use native.Mathlib.Omega.{arith}
use Rattle.std.proofs.Math.ListN.{length, take, drop, length-append, take-append-drop}
use Rattle.std.proofs.Math.Seq.{slice, slice_empty, set_split, length-slice, drop_at, drop-drop}
use Rattle.std.proofs.lemmas.List.{drop-append-le}

unfoldable pub appended : List ℕ → ℕ → List ℕ → List ℕ
appended d at s = take at d ++ (s ++ drop (at + length s) d)

module _ (d : List ℕ) (at : ℕ) where
  pub append_none : appended d at [] ≡ d
  unfolding appended
  append_none = let z : at + 0 ≡ at = omega arith in ap (λ k. take at d ++ drop k d) z ∙ take-append-drop at d

  pub append_one : (x : ℕ) → at < length d → set d at x ≡ appended d at (x ∷ [])
  unfolding appended
  append_one x h = set_split d at x h ∙ ap (λ k. take at d ++ (x ∷ drop k d)) (sym (add-one at))

  module _ (s : List ℕ) (h : at + length s ≤ length d) where
    head : length (take at d ++ s) ≡ at + length s
    head = length-append (take at d) s ∙ omega (arith, length-take-le at d (omega arith))

    split : appended d at s ≡ (take at d ++ s) ++ drop (at + length s) d
    unfolding appended
    split = sym (append_assoc (take at d) s (drop (at + length s) d))

    pub length_appended : length (appended d at s) ≡ length d
    length_appended = ap length split ∙ length-append (take at d ++ s) (drop (at + length s) d) ∙ omega (arith, head, length-drop (at + length s) d)

    pub take_appended : take (at + length s) (appended d at s) ≡ take at d ++ s
    take_appended = ap (take (at + length s)) split ∙ take_at (take at d ++ s) (drop (at + length s) d) (at + length s) head

    -- one list behind another
    pub append_more : (n : ℕ) (t : List ℕ) → n ≡ at + length s → appended (appended d at s) n t ≡ appended d at (s ++ t)
    unfolding appended
    append_more n t e = ap (λ n. appended (appended d at s) n t) e
        ∙ ap₂ (λ a b. a ++ (t ++ b)) take_appended behind
        ∙ append_assoc (take at d) s (t ++ drop (at + length (s ++ t)) d)
        ∙ ap (λ l. take at d ++ l) (sym (append_assoc s t (drop (at + length (s ++ t)) d)))
      where
        behind : drop (at + length s + length t) (appended d at s) ≡ drop (at + length (s ++ t)) d
        behind =
            let z : at + length s + length t ≡ at + length (s ++ t) = omega (arith, length-append s t) in
            sym (drop-drop (length t) (at + length s) (appended d at s))
            ∙ ap (drop (length t)) (ap (drop (at + length s)) split ∙ drop_at (take at d ++ s) (drop (at + length s) d) (at + length s) head)
            ∙ drop-drop (length t) (at + length s) d ∙ ap (λ k. drop k d) z

-- ---- a copy

pub slice_snoc {ℓ} : {A : Type ℓ} (l : List A) (a k : ℕ) (z : A) → a ≤ k → k < length l → slice a (k + 1) l ≡ slice a k l ++ (get_or l k z ∷ [])
slice_snoc l a k z h m = ap (λ n. drop a (take n l)) (add-one k) ∙ ap (drop a) (take-suc l k z m) ∙ drop-append-le a (take k l) (get_or l k z ∷ []) (omega (arith, length-take-le k l (omega arith)))

pub record Copying (s : List ℕ) (a e : ℕ) (d₀ : List ℕ) (at : ℕ) (d : List ℕ) (i : ℕ) : Type 0 where
  pub low : a ≤ i
  pub high : i ≤ e
  pub done : d ≡ appended d₀ at (slice a i s)

module _ (s : List ℕ) (a e : ℕ) (d₀ : List ℕ) (at : ℕ) where
  pub copying_start : a ≤ e → Copying s a e d₀ at d₀ a
  copying_start h = record { low = omega arith; high = h; done = sym (append_none d₀ at) ∙ ap (appended d₀ at) (sym (slice_empty a s)) }

  module _ (hs : e ≤ length s) (room : at + (e - a) ≤ length d₀) where
    fits : (i : ℕ) → a ≤ i → i ≤ e → at + length (slice a i s) ≤ length d₀
    fits i l h = omega (arith, length-slice a i s (omega arith))

    pub copying_size : (d : List ℕ) (i : ℕ) → Copying s a e d₀ at d i → length d ≡ length d₀
    copying_size d i w = ap length w.done ∙ length_appended d₀ at (slice a i s) (fits i w.low w.high)

    pub copying_room : (d : List ℕ) (i : ℕ) → i < e → Copying s a e d₀ at d i → at + (i - a) < length d
    copying_room d i h w = omega (arith, copying_size d i w, w.low)

    pub copying_step : (d : List ℕ) (i : ℕ) → i < e → Copying s a e d₀ at d i → Copying s a e d₀ at (set d (at + (i - a)) (get_or s i 0)) (i + 1)
    copying_step d i h w = record {
      low = omega (arith, w.low);
      high = omega arith;
      done = append_one d (at + (i - a)) (get_or s i 0) (copying_room d i h w) ∙ ap (λ l. appended l (at + (i - a)) (get_or s i 0 ∷ [])) w.done
          ∙ append_more d₀ at (slice a i s) (fits i w.low w.high) (at + (i - a)) (get_or s i 0 ∷ []) (omega (arith, length-slice a i s (omega arith)))
          ∙ ap (appended d₀ at) (sym (slice_snoc s a i 0 w.low (omega arith)));
    }

    pub copying_end : (d : List ℕ) (i : ℕ) → e ≤ i → Copying s a e d₀ at d i → d ≡ appended d₀ at (slice a e s)
    copying_end d i h w = let z : i ≡ e = omega (arith, w.high) in w.done ∙ ap (λ k. appended d₀ at (slice a k s)) z

-- ---- how long rows are

unfoldable pub gaps : List ℕ → ℕ → ℕ → List ℕ
gaps c a zero = []
gaps c a (suc n) = gaps c a n ++ ((get_or c (a + n + 1) 0 - get_or c (a + n) 0) ∷ [])

pub length_gaps : (c : List ℕ) (a n : ℕ) → length (gaps c a n) ≡ n
unfolding gaps
length_gaps c a zero = refl
length_gaps c a (suc n) = omega (arith, length-append (gaps c a n) ((get_or c (a + n + 1) 0 - get_or c (a + n) 0) ∷ []), length_gaps c a n)

pub record Gapping (c : List ℕ) (a n : ℕ) (d₀ : List ℕ) (at : ℕ) (d : List ℕ) (i : ℕ) : Type 0 where
  pub upto : i ≤ n
  pub done : d ≡ appended d₀ at (gaps c a i)

module _ (c : List ℕ) (a n : ℕ) (d₀ : List ℕ) (at : ℕ) where
  pub gapping_start : Gapping c a n d₀ at d₀ 0
  unfolding gaps
  gapping_start = record { upto = omega arith; done = sym (append_none d₀ at) }

  module _ (room : at + n ≤ length d₀) where
    pub gapping_size : (d : List ℕ) (i : ℕ) → Gapping c a n d₀ at d i → length d ≡ length d₀
    gapping_size d i w = ap length w.done ∙ length_appended d₀ at (gaps c a i) (omega (arith, length_gaps c a i, w.upto))

    pub gapping_room : (d : List ℕ) (i : ℕ) → i < n → Gapping c a n d₀ at d i → at + i < length d
    gapping_room d i h w = omega (arith, gapping_size d i w)

    pub gapping_step : (d : List ℕ) (i x : ℕ) → i < n → Gapping c a n d₀ at d i → x ≡ get_or c (a + i + 1) 0 - get_or c (a + i) 0 → Gapping c a n d₀ at (set d (at + i) x) (i + 1)
    unfolding gaps
    gapping_step d i x h w e = record {
      upto = omega arith;
      done = append_one d (at + i) x (gapping_room d i h w) ∙ ap (λ l. appended l (at + i) (x ∷ [])) w.done
          ∙ append_more d₀ at (gaps c a i) (omega (arith, length_gaps c a i)) (at + i) (x ∷ []) (omega (arith, length_gaps c a i))
          ∙ ap (λ y. appended d₀ at (gaps c a i ++ (y ∷ []))) e ∙ ap (λ k. appended d₀ at (gaps c a k)) (sym (add-one i));
    }

    pub gapping_end : (d : List ℕ) (i : ℕ) → n ≤ i → Gapping c a n d₀ at d i → d ≡ appended d₀ at (gaps c a n)
    gapping_end d i h w = let z : i ≡ n = omega (arith, w.upto) in w.done ∙ ap (λ k. appended d₀ at (gaps c a k)) z
