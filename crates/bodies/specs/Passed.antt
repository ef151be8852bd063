-- What an answer tells of the steps that gave it.
use Rattle.std.specs.Prelude.{◌≡◌, List, [], ◌∷◌, ◌++◌, Ok}
use Rattle.std.proofs.Common.{sym, ap, ◌∙◌, append_assoc, append-nil}
use Rattle.refusal.specs.Outcome.{Outcome, walk, each}
use Rattle.refusal.specs.Laws.{then_ok}
use Rattle.sums.specs.Sum.{Each}

-- every test of a walk passed
pub walk_ok : {A : Type 0} (t : A → Outcome (Unit {0})) (l : List A) (u : Unit {0}) → walk (λ _ x. t x) tt l ≡ Ok u → Each (λ x. t x ≡ Ok tt) l
unfolding walk
walk_ok t [] u e = tt
walk_ok t (x ∷ l) u e = let h = then_ok (t x) (λ _. walk (λ _ x. t x) tt l) u e in (h.1, walk_ok t l u h.2)

-- each element of the second list stands in R to the first's at that place
abbrev pub Pairwise : {A B : Type 0} → (A → B → Type 0) → List A → List B → Type 0
Pairwise R [] [] = Unit {0}
Pairwise R [] (y ∷ ys) = ⊥
Pairwise R (x ∷ l) [] = ⊥
Pairwise R (x ∷ l) (y ∷ ys) = R x y × Pairwise R l ys

-- it is what f made of it
abbrev pub Made : {A B : Type 0} → (A → Outcome B) → List A → List B → Type 0
Made f l ys = Pairwise (λ x y. f x ≡ Ok y) l ys

pub each_ok : {A B : Type 0} (f : A → Outcome B) (acc : List B) (l : List A) (ys : List B) → each f acc l ≡ Ok ys → (zs : List B) × (ys ≡ acc ++ zs) × Made f l zs
unfolding each
each_ok f acc [] ys e = ([], (let h : acc ≡ ys = cc in sym h ∙ sym (append-nil acc)), tt)
each_ok f acc (x ∷ l) ys e =
    let h = then_ok (f x) (λ y. each f (acc ++ (y ∷ [])) l) ys e in
    let r = each_ok f (acc ++ (h.0 ∷ [])) l ys h.2 in
    (h.0 ∷ r.0, r.1 ∙ append_assoc acc (h.0 ∷ []) r.0, (h.1, r.2))

-- a property of what was made, by a property of what it was made of
pub made_each : {A B : Type 0} (f : A → Outcome B) (P : A → Type 0) (Q : B → Type 0) (l : List A) (ys : List B) → ((x : A) (y : B) → f x ≡ Ok y → P x → Q y) → Made f l ys → Each P l → Each Q ys
made_each f P Q [] [] h m e = tt
made_each f P Q [] (y ∷ ys) h m e = absurd m
made_each f P Q (x ∷ l) [] h m e = absurd m
made_each f P Q (x ∷ l) (y ∷ ys) h m e = (h x y m.0 e.0, made_each f P Q l ys h m.1 e.1)

-- a relation between what was made and what it was made of
pub made_pairwise : {A B : Type 0} (f : A → Outcome B) (R : A → B → Type 0) (l : List A) (ys : List B) → ((x : A) (y : B) → f x ≡ Ok y → R x y) → Made f l ys → Pairwise R l ys
made_pairwise f R [] [] h m = tt
made_pairwise f R [] (y ∷ ys) h m = absurd m
made_pairwise f R (x ∷ l) [] h m = absurd m
made_pairwise f R (x ∷ l) (y ∷ ys) h m = (h x y m.0, made_pairwise f R l ys h m.1)
