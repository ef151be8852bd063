-- Laws of outcomes that every layer cites.
use Rattle.std.specs.Prelude.{◌≡◌, refl, Bool, true, false, List, [], ◌∷◌, ◌++◌, ℕ, Ok, Err}
use Rattle.std.proofs.Common.{sym, ap, ◌∙◌, subst}
use Rattle.refusal.specs.declared.Refusal.{Refusal}
use Rattle.refusal.specs.Outcome.{Outcome, then, unless, walk, each}

-- a step that refused is the whole's answer
pub stop : {A B : Type 0} (o : Outcome A) (f : A → Outcome B) (r : Refusal) → o ≡ Err r → then o f ≡ Err r
stop o f r e = ap (λ x. then x f) e

-- and one that did not hands its answer on
pub go : {A B : Type 0} (o : Outcome A) (f : A → Outcome B) (a : A) → o ≡ Ok a → then o f ≡ f a
go o f a e = ap (λ x. then x f) e

-- one turn of a walk
pub walk_stop : {S A : Type 0} (f : S → A → Outcome S) (s : S) (x : A) (l : List A) (r : Refusal) → f s x ≡ Err r → walk f s (x ∷ l) ≡ Err r
unfolding walk
walk_stop f s x l r e = stop (f s x) (λ s'. walk f s' l) r e

pub walk_go : {S A : Type 0} (f : S → A → Outcome S) (s : S) (x : A) (l : List A) (s' : S) → f s x ≡ Ok s' → walk f s (x ∷ l) ≡ walk f s' l
unfolding walk
walk_go f s x l s' e = go (f s x) (λ t. walk f t l) s' e

pub walk_end : {S A : Type 0} (f : S → A → Outcome S) (s : S) → walk f s [] ≡ Ok s
unfolding walk
walk_end f s = refl

-- one turn of a listing
pub each_stop : {A B : Type 0} (f : A → Outcome B) (acc : List B) (x : A) (l : List A) (r : Refusal) → f x ≡ Err r → each f acc (x ∷ l) ≡ Err r
unfolding each
each_stop f acc x l r e = stop (f x) (λ y. each f (acc ++ (y ∷ [])) l) r e

pub each_go : {A B : Type 0} (f : A → Outcome B) (acc : List B) (x : A) (l : List A) (y : B) → f x ≡ Ok y → each f acc (x ∷ l) ≡ each f (acc ++ (y ∷ [])) l
unfolding each
each_go f acc x l y e = go (f x) (λ z. each f (acc ++ (z ∷ [])) l) y e

pub each_end : {A B : Type 0} (f : A → Outcome B) (acc : List B) → each f acc [] ≡ Ok acc
unfolding each
each_end f acc = refl

-- ---- outcomes that are an answer

pub same_ok : {A : Type 0} {a b : A} → ◌≡◌ {A = Outcome A} (Ok a) (Ok b) → a ≡ b
same_ok e = cc

-- a refusal is none, and a verdict that refuses is not fine
pub never_ok {ℓ} : {A : Type 0} {B : Type ℓ} {r : Refusal} {a : A} → Err r ≡ Ok a → B
never_ok {A = A} e = absurd (subst kind e tt)
  where
    kind : Outcome A → Type 0
    kind (Ok a) = ⊥
    kind (Err r) = Unit

pub never_fine {ℓ} : {B : Type ℓ} {r : Refusal} → ◌≡◌ {A = Outcome Unit} (Err r) (Ok tt) → B
never_fine e = absurd (subst kind e tt)
  where
    kind : Outcome Unit → Type 0
    kind (Ok tt) = ⊥
    kind (Err r) = Unit

-- the step before gave an answer too
pub then_ok : {A B : Type 0} (o : Outcome A) (f : A → Outcome B) (b : B) → then o f ≡ Ok b → (a : A) × (o ≡ Ok a) × (f a ≡ Ok b)
then_ok (Ok a) f b e = (a, refl, e)
then_ok (Err r) f b e = never_ok e

-- a test that refuses did not
pub unless_ok : {A : Type 0} (t : Bool) (n : ℕ) (o : Outcome A) (a : A) → unless t n o ≡ Ok a → (t ≡ false) × (o ≡ Ok a)
unless_ok true n o a e = never_ok e
unless_ok false n o a e = (refl, e)
