-- Weights of lists: every law of "exactly once" is a law of sums over an arbitrary weight.
use Rattle.std.specs.Prelude.{◌≡◌, refl, ◌⊎◌, ◌≢◌, List, [], ◌∷◌, ◌++◌, ℕ, zero, suc, ◌+◌, ◌≤◌, ◌<◌, Bool, true, false, not, T, eqb, ltb, length, get_or, set, replicate}
use Rattle.std.proofs.Common.{sym, ap, ◌∙◌, subst, inl, inr, ⊎_elim, arith, eqb→eq, ltb→lt, nltb→le}
use Rattle.std.proofs.Math.Path.{subst⁻¹}
use Rattle.std.proofs.Math.Decide.{dec_lt}
use Rattle.std.proofs.Math.Dec.{eqb_refl}

-- The sum of a weight over a list.
unfoldable pub sum {ℓ} : {A : Type ℓ} → (A → ℕ) → List A → ℕ
sum f [] = 0
sum f (x ∷ l) = f x + sum f l

-- A test as a number.
unfoldable pub bit : Bool → ℕ
bit true = 1
bit false = 0

-- 1 where the two are the same, else 0; 1 where the first is below the second, else 0.
unfoldable pub hit : ℕ → ℕ → ℕ
unfolding bit
hit x y = bit (eqb x y)

unfoldable pub less : ℕ → ℕ → ℕ
unfolding bit
less x y = bit (ltb x y)

pub hit_cases : (x y : ℕ) → ((x ≡ y) × (hit x y ≡ 1)) ⊎ ((x ≢ y) × (hit x y ≡ 0))
unfolding hit bit
hit_cases x y = go (eqb x y) refl
  where
    go : (b : Bool) → eqb x y ≡ b → ((x ≡ y) × (bit b ≡ 1)) ⊎ ((x ≢ y) × (bit b ≡ 0))
    go true e = inl (eqb→eq x y (subst⁻¹ T e tt), refl)
    go false e = inr (λ p. subst T e (subst (λ z. T (eqb x z)) p (eqb_refl x)), refl)

pub less_cases : (x y : ℕ) → ((x < y) × (less x y ≡ 1)) ⊎ ((y ≤ x) × (less x y ≡ 0))
unfolding less bit
less_cases x y = go (ltb x y) refl
  where
    go : (b : Bool) → ltb x y ≡ b → ((x < y) × (bit b ≡ 1)) ⊎ ((y ≤ x) × (bit b ≡ 0))
    go true e = inl (ltb→lt x y (subst⁻¹ T e tt), refl)
    go false e = inr (nltb→le x y (subst⁻¹ (λ b. T (not b)) e tt), refl)

pub hit_same : (x : ℕ) → hit x x ≡ 1
hit_same x = ⊎_elim (λ h. h.1) (λ h. absurd (h.0 refl)) (hit_cases x x)

-- How often x stands in the list.
abbrev pub occ : ℕ → List ℕ → ℕ
occ x l = sum (hit x) l

-- A flag counts its weight once it is set.
unfoldable pub pick : ℕ → ℕ → ℕ
pick zero v = 0
pick (suc _) v = v

-- The sum of a weight over the places whose flag is set.
unfoldable pub flagged : (ℕ → ℕ) → List ℕ → ℕ
unfolding pick
flagged f [] = 0
flagged f (b ∷ s) = pick b (f 0) + flagged (λ i. f (suc i)) s

-- How many flags are not set.
unfoldable pub open' : ℕ → ℕ
open' zero = 1
open' (suc _) = 0

pub flagged_set : (f : ℕ → ℕ) (s : List ℕ) (j : ℕ) → get_or s j 1 ≡ 0 → flagged f (set s j 1) ≡ f j + flagged f s
unfolding flagged pick
flagged_set f [] j e = absurd (omega (arith, e))
flagged_set f (b ∷ s) zero e = rw e (omega arith)
flagged_set f (b ∷ s) (suc j) e = omega (arith, flagged_set (λ i. f (suc i)) s j e)

pub closed_set : (s : List ℕ) (j : ℕ) → get_or s j 1 ≡ 0 → suc (sum open' (set s j 1)) ≡ sum open' s
unfolding sum open'
closed_set [] j e = absurd (omega (arith, e))
closed_set (b ∷ s) zero e = rw e (omega arith)
closed_set (b ∷ s) (suc j) e = omega (arith, closed_set s j e)

-- x stands in the list.
abbrev pub ◌∈◌ : ℕ → List ℕ → Type 0
◌∈◌ x l = 1 ≤ occ x l

infix 50 ◌∈◌
-- Every entry of the list has the property.
abbrev pub All : (ℕ → Type 0) → List ℕ → Type 0
All P l = (x : ℕ) → 1 ≤ occ x l → P x

pub none : (x : ℕ) {B : Type 0} → 1 ≤ occ x [] → B
unfolding sum
none x h = absurd (omega arith)

pub here : (x : ℕ) (l : List ℕ) → 1 ≤ occ x (x ∷ l)
unfolding sum
here x l = omega (arith, hit_same x)

pub there : (x y : ℕ) (l : List ℕ) → 1 ≤ occ x l → 1 ≤ occ x (y ∷ l)
unfolding sum
there x y l h = omega arith

pub cases_in : (x y : ℕ) (l : List ℕ) → 1 ≤ occ x (y ∷ l) → (x ≡ y) ⊎ (1 ≤ occ x l)
unfolding sum
cases_in x y l h = ⊎_elim (λ c. inl c.0) (λ c. inr (omega (arith, c.1))) (hit_cases x y)

pub all_cons : (P : ℕ → Type 0) (y : ℕ) (l : List ℕ) → P y → All P l → All P (y ∷ l)
all_cons P y l p a x h = ⊎_elim (λ e. rw e p) (λ m. a x m) (cases_in x y l h)

-- Every place of the list has the property.
abbrev pub Each {ℓ} : {A : Type ℓ} → (A → Type 0) → List A → Type 0
Each P [] = Unit {0}
Each P (x ∷ l) = P x × Each P l

pub seen_set : (s : List ℕ) (j : ℕ) → 1 ≤ get_or (set s j 1) j 1
seen_set [] j = omega arith
seen_set (b ∷ s) zero = omega arith
seen_set (b ∷ s) (suc j) = seen_set s j

pub seen_keep : (s : List ℕ) (j x : ℕ) → 1 ≤ get_or s x 1 → 1 ≤ get_or (set s j 1) x 1
seen_keep [] j x h = h
seen_keep (b ∷ s) zero zero h = omega arith
seen_keep (b ∷ s) zero (suc x) h = h
seen_keep (b ∷ s) (suc j) zero h = h
seen_keep (b ∷ s) (suc j) (suc x) h = seen_keep s j x h

-- the weight that is 1 at x alone
pub flagged_none : (f : ℕ → ℕ) (s : List ℕ) → ((i : ℕ) → f i ≡ 0) → flagged f s ≡ 0
unfolding flagged pick
flagged_none f [] z = refl
flagged_none f (zero ∷ s) z = omega (arith, flagged_none (λ i. f (suc i)) s (λ i. z (suc i)))
flagged_none f (suc b ∷ s) z = omega (arith, z 0, flagged_none (λ i. f (suc i)) s (λ i. z (suc i)))

flagged_at : (f : ℕ → ℕ) (s : List ℕ) (x : ℕ) → f x ≡ 1 → ((i : ℕ) → i ≢ x → f i ≡ 0) → x < length s → flagged f s ≡ pick (get_or s x 1) 1
unfolding flagged pick
flagged_at f [] x o z h = absurd (omega arith)
flagged_at f (zero ∷ s) zero o z h = omega (arith, flagged_none (λ i. f (suc i)) s (λ i. z (suc i) (omega arith)))
flagged_at f (suc b ∷ s) zero o z h = omega (arith, flagged_none (λ i. f (suc i)) s (λ i. z (suc i) (omega arith)))
flagged_at f (zero ∷ s) (suc x) o z h = omega (arith, flagged_at (λ i. f (suc i)) s x o (λ i n. z (suc i) (omega arith)) (omega arith))
flagged_at f (suc b ∷ s) (suc x) o z h = omega (arith, z 0 (omega arith), flagged_at (λ i. f (suc i)) s x o (λ i n. z (suc i) (omega arith)) (omega arith))

flagged_past : (f : ℕ → ℕ) (s : List ℕ) (x : ℕ) → ((i : ℕ) → i ≢ x → f i ≡ 0) → length s ≤ x → flagged f s ≡ 0
unfolding flagged pick
flagged_past f [] x z h = refl
flagged_past f (b ∷ s) zero z h = absurd (omega arith)
flagged_past f (zero ∷ s) (suc x) z h = omega (arith, flagged_past (λ i. f (suc i)) s x (λ i n. z (suc i) (omega arith)) (omega arith))
flagged_past f (suc b ∷ s) (suc x) z h = omega (arith, z 0 (omega arith), flagged_past (λ i. f (suc i)) s x (λ i n. z (suc i) (omega arith)) (omega arith))

-- a sum that is not 0 has a part that is not
pub some_of : (u v : ℕ) → 1 ≤ u + v → (1 ≤ u) ⊎ (1 ≤ v)
some_of zero v h = inr (omega arith)
some_of (suc u) v h = inl (omega arith)

pub hit_other : (x i : ℕ) → i ≢ x → hit x i ≡ 0
hit_other x i n = ⊎_elim (λ c. absurd (n (sym c.0))) (λ c. c.1) (hit_cases x i)

pub pick_le : (b v : ℕ) → pick b v ≤ v
unfolding pick
pick_le zero v = omega arith
pick_le (suc b) v = omega arith

pick_set : (b : ℕ) → 1 ≤ b → pick b 1 ≡ 1
unfolding pick
pick_set zero h = absurd (omega arith)
pick_set (suc b) h = refl

pick_of : (b : ℕ) → 1 ≤ pick b 1 → 1 ≤ b
unfolding pick
pick_of zero h = h
pick_of (suc b) h = omega arith

-- A flag as a weight: at most 1; 1 exactly where x is a place whose flag is set.
pub flag_le : (x : ℕ) (s : List ℕ) → flagged (hit x) s ≤ 1
flag_le x s = go (dec_lt x (length s))
  where
    go : Dec (x < length s) → flagged (hit x) s ≤ 1
    go (yes h) = omega (arith, flagged_at (hit x) s x (hit_same x) (hit_other x) h, pick_le (get_or s x 1) 1)
    go (no h) = omega (arith, flagged_past (hit x) s x (hit_other x) (omega arith))

pub flag_set : (x : ℕ) (s : List ℕ) → x < length s → 1 ≤ get_or s x 1 → flagged (hit x) s ≡ 1
flag_set x s h b = flagged_at (hit x) s x (hit_same x) (hit_other x) h ∙ pick_set (get_or s x 1) b

pub flag_of : (x : ℕ) (s : List ℕ) → 1 ≤ flagged (hit x) s → (x < length s) × (1 ≤ get_or s x 1)
flag_of x s b = go (dec_lt x (length s))
  where
    go : Dec (x < length s) → (x < length s) × (1 ≤ get_or s x 1)
    go (yes h) = (h, pick_of (get_or s x 1) (omega (arith, flagged_at (hit x) s x (hit_same x) (hit_other x) h)))
    go (no h) = absurd (omega (arith, flagged_past (hit x) s x (hit_other x) (omega arith)))

-- The sum of a weight over the numbers below n.
unfoldable pub full : (ℕ → ℕ) → ℕ → ℕ
full f zero = 0
full f (suc n) = f 0 + full (λ i. f (suc i)) n

pub flagged_all : (f : ℕ → ℕ) (s : List ℕ) → ((x : ℕ) → x < length s → 1 ≤ get_or s x 1) → flagged f s ≡ full f (length s)
unfolding flagged full pick
flagged_all f [] h = refl
flagged_all f (zero ∷ s) h = absurd (omega (arith, h 0 (omega arith)))
flagged_all f (suc b ∷ s) h = omega (arith, flagged_all (λ i. f (suc i)) s (λ x l. h (suc x) (omega arith)))

pub flagged_zero : (f : ℕ → ℕ) (n : ℕ) → flagged f (replicate n 0) ≡ 0
unfolding flagged pick
flagged_zero f zero = refl
flagged_zero f (suc n) = omega (arith, flagged_zero (λ i. f (suc i)) n)

pub open_le : (s : List ℕ) → sum open' s ≤ length s
unfolding sum open'
open_le [] = omega arith
open_le (zero ∷ s) = omega (arith, open_le s)
open_le (suc b ∷ s) = omega (arith, open_le s)

-- the flags that are set and those that are not are all
pub flagged_one : (s : List ℕ) → flagged (λ _. 1) s + sum open' s ≡ length s
unfolding flagged sum pick open'
flagged_one [] = refl
flagged_one (zero ∷ s) = omega (arith, flagged_one s)
flagged_one (suc b ∷ s) = omega (arith, flagged_one s)

pub sum_one {ℓ} : {A : Type ℓ} (l : List A) → sum (λ _. 1) l ≡ length l
unfolding sum
sum_one [] = refl
sum_one (x ∷ l) = omega (arith, sum_one l)
