-- Laws of walks over lists, in the words of a loop that counts i up to n.
use Rattle.std.specs.Prelude.{◌≡◌, Bool, true, false, cond, length, take, drop, get_or, set, replicate}
use Rattle.std.proofs.Math.Path.{refl, ap}
use Rattle.std.proofs.Common.{sym, ◌∙◌, subst, arith, not-suc-le-zero, le_of_suc-le-suc, mod-eq_of_lt, mod-lt, add-one, length-take, length-append, drop_of_length-le, drop-cons, get_or-take, length-take-le, take_at}
use mathlib.Core.List.{List, [], ◌∷◌, ◌++◌, append_assoc, map}
use Prim.Native.Nat.{ℕ, zero, suc, ◌+◌, ◌-◌, ◌%◌, ◌≤◌, ◌<◌}
use Rattle.std.proofs.Math.Nat.{mod_self}
use Rattle.std.proofs.Math.Decide.{dec_lt}
use Rattle.std.proofs.lemmas.List.{length-map, set_at}
use Rattle.std.proofs.lemmas.List.Edits.{sets, sets-eq}
use Rattle.lists.specs.Walks.{Pair, next_or, pairs_to, cyclic, Run, Stops}

pub cond_yes {ℓ} : {A : Type ℓ} {b : Bool} {x : A} (y : A) → b ≡ true → x ≡ cond b x y
cond_yes y e = rw e refl

pub cond_no {ℓ} : {A : Type ℓ} {b : Bool} {y : A} (x : A) → b ≡ false → y ≡ cond b x y
cond_no x e = rw e refl

-- ---- a walk over the first n of a list: the next one and the rest, and the end

pub next {ℓ} : {A : Type ℓ} (l : List A) (n i : ℕ) (d : A) → i < n → n ≤ length l → drop i (take n l) ≡ get_or l i d ∷ drop (i + 1) (take n l)
next l n i d h k =
    let m : i < length (take n l) = omega (arith, length-take n l) in
    rw (add-one, drop-cons (take n l) i d m, get_or-take n l i d h)

pub done {ℓ} : {A : Type ℓ} (l : List A) (n i : ℕ) → n ≤ i → drop i (take n l) ≡ []
done l n i h = let k : length (take n l) ≤ i = omega (arith, length-take n l) in drop_of_length-le (take n l) k

-- ---- places at which a test holds, counted through

module _ {f : ℕ → Bool} {n i : ℕ} where
  pub run_start : i ≤ n → Run f n i i
  run_start h = record { from = omega arith; upto = h; each = λ x k l. absurd (clash i x k l) }
    where
      clash : (i x : ℕ) → i ≤ x → x < i → ⊥
      clash i x k l = omega arith

  module _ {r : ℕ} (R : Run f n i r) where
    pub run_next : r < n → f r ≡ true → Run f n i (r + 1)
    run_next h e = record { from = omega (arith, R.from); upto = omega arith; each = λ x k l. elim (dec_lt x r) [ yes w ↦ R.each x k w | no w ↦ ap f (last x r l w) ∙ e ] }
      where
        last : (x r : ℕ) → x < r + 1 → (x < r → ⊥) → x ≡ r
        last x r l w = omega arith

    pub run_stops : f r ≡ false → Stops f n i r
    run_stops e = record { run = R; stop = λ h. e }

    pub run_ends : n ≤ r → Stops f n i r
    run_ends h = record { run = R; stop = λ k. absurd (clash n r h k) }
      where
        clash : (n r : ℕ) → n ≤ r → r < n → ⊥
        clash n r h k = omega arith

    -- what each of them keeps holds behind them
    pub run_over : (P : ℕ → Type 0) → ((x : ℕ) → x < n → f x ≡ true → P x → P (x + 1)) → P i → P r
    run_over P step p = subst P (back i r R.from) (go (r - i) (omega (arith, R.from)))
      where
        back : (i r : ℕ) → i ≤ r → i + (r - i) ≡ r
        back i r h = omega arith

        none : (i : ℕ) → i ≡ i + 0
        none i = omega arith

        more : (i k : ℕ) → i + k + 1 ≡ i + suc k
        more i k = omega arith

        go : (k : ℕ) → i + k ≤ r → P (i + k)
        go zero h = subst P (none i) p
        go (suc k) h = subst P (more i k) (step (i + k) (omega (arith, R.upto)) (R.each (i + k) (omega arith) (omega arith)) (go k (omega arith)))

-- ---- one more element before the padding of an array

pub pad_set {ℓ} : {A : Type ℓ} (l : List A) (m : ℕ) (o q : A) → length l < m →
    set (l ++ replicate (m - length l) o) (length l) q ≡ (l ++ (q ∷ [])) ++ replicate (m - length (l ++ (q ∷ []))) o
pad_set l m o q h =
    let k : m - length l ≡ suc (m - length (l ++ (q ∷ []))) = simp length-append (omega arith) in
    rw (k, set_at l o (replicate (m - length (l ++ (q ∷ []))) o) q (length l) refl, append_assoc)

-- ---- what was stored at the front is there

pub front_stored {ℓ} : {A : Type ℓ} (l s : List A) (m : ℕ) → m ≡ length l → length l ≤ length s → take m (sets s 0 l) ≡ l
front_stored l s m e h = ap (take m) (sets-eq l s 0 (omega arith)) ∙ take_at l (drop (0 + length l) s) m (sym e)

-- the length of an array field, from what the parameter's or the call's record says of it
pub full {ℓ κ} : {A : Type ℓ} {B : Type κ} (f : A → B) (l : List A) (n : ℕ) → length (map f l) ≡ n → length l ≡ n
full f l n e = sym (length-map l f) ∙ e

-- ---- the walk round

module _ {A : Type 0} where
  abbrev pair : A → A → Pair A
  pair a b = record { from = a; to = b }

  along : (o : A) (l : List A) (i : ℕ) (d : A) → i < length l → drop i (pairs_to o l) ≡ pair (get_or l i d) (next_or o (drop (suc i) l)) ∷ drop (suc i) (pairs_to o l)
  unfolding pairs_to
  along o [] i d h = absurd (not-suc-le-zero h)
  along o (a ∷ l) zero d h = refl
  along o (a ∷ l) (suc i) d h = along o l i d (le_of_suc-le-suc h)

  cyclic_is : (o : A) (l : List A) → cyclic l ≡ pairs_to (next_or o l) l
  unfolding cyclic pairs_to
  cyclic_is o [] = refl
  cyclic_is o (a ∷ l) = refl

  next_in : (o : A) (l : List A) (j : ℕ) (d : A) → j < length l → next_or o (drop j l) ≡ get_or l j d
  next_in o l j d h = rw (drop-cons l j d h) refl

  next_out : (o : A) (l : List A) (j : ℕ) → length l ≤ j → next_or o (drop j l) ≡ o
  next_out o l j h = rw (drop_of_length-le l h) refl

  next_round : (l : List A) (i : ℕ) (d : A) → i < length l → next_or (next_or d l) (drop (suc i) l) ≡ get_or l ((i + 1) % length l) d
  next_round l i d h = elim (dec_lt (i + 1) (length l)) [
    | yes k ↦ rw (mod-eq_of_lt k, add-one) (next_in _ l (suc i) d (omega arith))
    | no k ↦
        let e : i + 1 ≡ length l = omega arith in
        let z : (i + 1) % length l ≡ 0 = ap (λ m. m % length l) e ∙ mod_self (length l) in
        rw z (next_out _ l (suc i) (omega arith) ∙ next_in d l 0 d (omega arith))
  ]

  -- the next pair of a whole list, and the rest
  pub next_pair : (l : List A) (i : ℕ) (d : A) → i < length l
      → drop i (cyclic l) ≡ record { from = get_or l i d; to = get_or l ((i + 1) % length l) d } ∷ drop (i + 1) (cyclic l)
  next_pair l i d h =
      ap (drop i) (cyclic_is d l)
      ∙ along (next_or d l) l i d h
      ∙ ap (λ b. pair (get_or l i d) b ∷ drop (suc i) (pairs_to (next_or d l) l)) (next_round l i d h)
      ∙ ap (λ j. pair (get_or l i d) (get_or l ((i + 1) % length l) d) ∷ drop j (pairs_to (next_or d l) l)) (sym (add-one i))
      ∙ ap (λ q. pair (get_or l i d) (get_or l ((i + 1) % length l) d) ∷ drop (i + 1) q) (sym (cyclic_is d l))

  -- the next pair of the first n of a list, and the rest
  pub next_edge : (l : List A) (n i : ℕ) (d : A) → i < n → n ≤ length l
      → drop i (cyclic (take n l)) ≡ record { from = get_or l i d; to = get_or l ((i + 1) % n) d } ∷ drop (i + 1) (cyclic (take n l))
  next_edge l n i d h k =
      let len : length (take n l) ≡ n = length-take-le n l k in
      let e1 : get_or (take n l) i d ≡ get_or l i d = get_or-take n l i d h in
      let e2 : get_or (take n l) ((i + 1) % length (take n l)) d ≡ get_or l ((i + 1) % n) d =
      ap (λ q. get_or (take n l) ((i + 1) % q) d) len ∙ get_or-take n l ((i + 1) % n) d (mod-lt (i + 1) (omega arith)) in
      next_pair (take n l) i d (omega arith)
      ∙ ap (λ a. pair a (get_or (take n l) ((i + 1) % length (take n l)) d) ∷ drop (i + 1) (cyclic (take n l))) e1
      ∙ ap (λ b. pair (get_or l i d) b ∷ drop (i + 1) (cyclic (take n l))) e2

  length_pairs : (o : A) (l : List A) → length (pairs_to o l) ≡ length l
  unfolding pairs_to
  length_pairs o [] = refl
  length_pairs o (a ∷ l) = ap suc (length_pairs o l)

  pub length_cyclic : (l : List A) → length (cyclic l) ≡ length l
  unfolding cyclic pairs_to
  length_cyclic [] = refl
  length_cyclic (a ∷ l) = ap suc (length_pairs a l)

  pub edges_done : (l : List A) (n i : ℕ) → n ≤ i → drop i (cyclic (take n l)) ≡ []
  edges_done l n i h =
      let k : length (cyclic (take n l)) ≤ i = omega (arith, length_cyclic (take n l), length-take n l) in
      drop_of_length-le (cyclic (take n l)) k
