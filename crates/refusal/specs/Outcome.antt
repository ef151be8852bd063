-- An answer or a refusal, and the two walks over lists that the definitions of every layer are made of. Definitions only.
use Rattle.std.specs.Prelude.{ℕ, Bool, true, false, List, [], ◌∷◌, ◌++◌, Result, Ok, Err}
use Rattle.refusal.specs.declared.Refusal.{Refusal}

-- 01, "Refusal numbers": a refusal hands back its number
abbrev pub refusal_of : ℕ → Refusal
refusal_of n = record { number = n }

-- what a step answers, or why it refuses
abbrev pub Outcome : Type 0 → Type 0
Outcome A = Result A Refusal

abbrev pub refuse : {A : Type 0} → ℕ → Outcome A
refuse n = Err (refusal_of n)

-- the next step, where there is an answer
abbrev pub then : {A B : Type 0} → Outcome A → (A → Outcome B) → Outcome B
then (Ok a) f = f a
then (Err r) f = Err r

-- n where a test fails the input, else the rest
abbrev pub unless : {A : Type 0} → Bool → ℕ → Outcome A → Outcome A
unless true n o = refuse n
unless false n o = o

-- each element in order, the first refusal decides: a walk that keeps a state, and one that lists what it gets
unfoldable pub walk : {S A : Type 0} → (S → A → Outcome S) → S → List A → Outcome S
walk f s [] = Ok s
walk f s (x ∷ l) = then (f s x) (λ s'. walk f s' l)

unfoldable pub each : {A B : Type 0} → (A → Outcome B) → List B → List A → Outcome (List B)
each f acc [] = Ok acc
each f acc (x ∷ l) = then (f x) (λ y. each f (acc ++ (y ∷ [])) l)

-- what a verdict and the value beside it say
unfoldable pub heard : {A : Type 0} → Outcome Unit → A → Outcome A
heard (Ok tt) a = Ok a
heard (Err r) a = Err r

-- the verdict of an outcome
unfoldable pub verdict_of : {A : Type 0} → Outcome A → Outcome Unit
verdict_of (Ok a) = Ok tt
verdict_of (Err r) = Err r

-- 01: 0 is an answer
unfoldable pub number_of : {A : Type 0} → Outcome A → ℕ
number_of (Ok a) = 0
number_of (Err r) = r.number
