-- Walks over lists that the definitions of several layers are made of. Definitions only.
use Rattle.std.specs.Prelude.{◌≡◌, ℕ, zero, suc, ◌+◌, ◌≤◌, ◌<◌, Bool, true, false, ◌&&◌, List, [], ◌∷◌}

pub record Pair (A : Type 0) : Type 0 where
  pub from : A
  pub to : A

abbrev pub next_or : {A : Type 0} → A → List A → A
next_or o [] = o
next_or o (b ∷ l) = b

-- each element with the next one, and the last with o
unfoldable pub pairs_to : {A : Type 0} → A → List A → List (Pair A)
pairs_to o [] = []
pairs_to o (a ∷ l) = record { from = a; to = next_or o l } ∷ pairs_to o l

-- each element with the next one, and the last with the first
unfoldable pub cyclic : {A : Type 0} → List A → List (Pair A)
cyclic [] = []
cyclic (a ∷ l) = pairs_to a (a ∷ l)

-- each element with its place, from i on
pub record Numbered (A : Type 0) : Type 0 where
  pub place : ℕ
  pub it : A

unfoldable pub numbered : {A : Type 0} → ℕ → List A → List (Numbered A)
numbered i [] = []
numbered i (x ∷ l) = record { place = i; it = x } ∷ numbered (suc i) l

-- b, and a test of each element
unfoldable pub all : {A : Type 0} → (A → Bool) → Bool → List A → Bool
all f b [] = b
all f b (x ∷ l) = all f (b && f x) l

-- a test holds at each place from i up to r, of n
pub record Run (f : ℕ → Bool) (n i r : ℕ) : Type 0 where
  pub from : i ≤ r
  pub upto : r ≤ n
  pub each : (x : ℕ) → i ≤ x → x < r → f x ≡ true

-- and r is the first place at which it does not, or n
pub record Stops (f : ℕ → Bool) (n i r : ℕ) : Type 0 where
  pub run : Run f n i r
  pub stop : r < n → f r ≡ false
