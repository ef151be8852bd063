-- A refusal's number is one of 01's, and so it stays however outcomes and verdicts are put together.
use Rattle.std.specs.Prelude.{◌≡◌, refl, ◌⊎◌, Bool, true, false, cond, List, [], ◌∷◌, ◌++◌, ℕ, ◌≤◌, T, leb, Ok, Err}
use Rattle.std.proofs.Common.{inl, inr, le_trans, arith, leb→le}
use Rattle.refusal.specs.declared.Refusal.{Refusal}
use Rattle.refusal.specs.Outcome.{Outcome, refuse, refusal_of, then, unless, walk, each, heard, verdict_of}

-- from 1 to n, or 33: the check of an input solid has it too
abbrev pub Among : ℕ → Refusal → Type 0
Among n r = (1 ≤ r.number) × ((r.number ≤ n) ⊎ (r.number ≡ 33))

-- a refusal's number is one of 01's, from 1 to n or 33
pub data Numbered {A : Type 0} (n : ℕ) : Outcome A → Type 0 where
  answer : (a : A) → Numbered n (Ok a)
  number : (r : Refusal) → Among n r → Numbered n (Err r)

-- the same of a verdict
pub data Judged (n : ℕ) : Outcome Unit → Type 0 where
  fine : Judged n (Ok tt)
  ruled : (r : Refusal) → Among n r → Judged n (Err r)

-- ---- one number

-- both tests compute at numerals
pub among : (k n : ℕ) → T (leb 1 k) → T (leb k n) → Among n (refusal_of k)
among k n a b = (leb→le 1 k a, inl (leb→le k n b))

-- a turn that is not certain
pub unsure : (n : ℕ) → Among n (refusal_of 33)
unsure n = (leb→le 1 33 tt, inr refl)

-- a weaker bound
pub among_more : (n m : ℕ) (r : Refusal) → T (leb n m) → Among n r → Among m r
among_more n m r h w = (w.0, go w.1)
  where
    go : (r.number ≤ n) ⊎ (r.number ≡ 33) → (r.number ≤ m) ⊎ (r.number ≡ 33)
    go (inl l) = inl (le_trans l (leb→le n m h))
    go (inr e) = inr e

-- it is below 256
pub among_byte : (n : ℕ) (r : Refusal) → n ≤ 255 → Among n r → r.number ≤ 255
among_byte n r h w = go w.1
  where
    go : (r.number ≤ n) ⊎ (r.number ≡ 33) → r.number ≤ 255
    go (inl l) = le_trans l h
    go (inr e) = omega (arith, e)

-- ---- outcomes

pub numbered_among : {A : Type 0} {n : ℕ} {r : Refusal} → Numbered {A = A} n (Err r) → Among n r
numbered_among (number r w) = w

pub numbered_at : {A : Type 0} (k : ℕ) {n : ℕ} → T (leb 1 k) → T (leb k n) → Numbered {A = A} n (refuse k)
numbered_at k {n} a b = number (refusal_of k) (among k n a b)

pub numbered_then : {A B : Type 0} {n : ℕ} {o : Outcome A} {f : A → Outcome B} → Numbered n o → ((a : A) → Numbered n (f a)) → Numbered n (then o f)
numbered_then (answer a) h = h a
numbered_then (number r w) h = number r w

pub numbered_unless : {A : Type 0} {n : ℕ} (b : Bool) (k : ℕ) {o : Outcome A} → T (leb 1 k) → T (leb k n) → Numbered n o → Numbered n (unless b k o)
numbered_unless true k x y w = numbered_at k x y
numbered_unless false k x y w = w

pub numbered_cond : {A : Type 0} {n : ℕ} (b : Bool) {o p : Outcome A} → Numbered n o → Numbered n p → Numbered n (cond b o p)
numbered_cond true x y = x
numbered_cond false x y = y

pub numbered_walk : {S A : Type 0} {n : ℕ} (f : S → A → Outcome S) → ((s : S) (x : A) → Numbered n (f s x)) → (s : S) (l : List A) → Numbered n (walk f s l)
unfolding walk
numbered_walk f h s [] = answer s
numbered_walk f h s (x ∷ l) = numbered_then (h s x) (λ s'. numbered_walk f h s' l)

pub numbered_each : {A B : Type 0} {n : ℕ} (f : A → Outcome B) → ((x : A) → Numbered n (f x)) → (acc : List B) (l : List A) → Numbered n (each f acc l)
unfolding each
numbered_each f h acc [] = answer acc
numbered_each f h acc (x ∷ l) = numbered_then (h x) (λ y. numbered_each f h (acc ++ (y ∷ [])) l)

-- ---- verdicts

pub numbered_heard : {A : Type 0} {n : ℕ} {v : Outcome Unit} (a : A) → Judged n v → Numbered n (heard v a)
unfolding heard
numbered_heard a fine = answer a
numbered_heard a (ruled r w) = number r w

pub judged_at : (k : ℕ) {n : ℕ} → T (leb 1 k) → T (leb k n) → Judged n (Err (refusal_of k))
judged_at k {n} a b = ruled (refusal_of k) (among k n a b)

pub judged_of : {A : Type 0} {n : ℕ} {o : Outcome A} → Numbered n o → Judged n (verdict_of o)
unfolding verdict_of
judged_of (answer a) = fine
judged_of (number r w) = ruled r w
