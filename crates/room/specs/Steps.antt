-- Laws of loops that keep a verdict beside their state: a refusal stays, and the turns that follow change nothing.
use Rattle.std.specs.Prelude.{◌≡◌, refl, List, [], ◌∷◌, Ok, Err}
use Rattle.std.proofs.Common.{sym, ap, ◌∙◌}
use Rattle.refusal.specs.Outcome.{Outcome, then, walk}
use Rattle.refusal.specs.Laws.{same_ok, then_ok}
use Rattle.polygon.specs.Members.{All}

-- what a walk from a heard state on still gives
abbrev pub onward : {S A : Type 0} → (S → A → Outcome S) → Outcome S → List A → Outcome S
onward f o l = then o (λ s. walk f s l)

-- one turn
pub onward_next : {S A : Type 0} (f : S → A → Outcome S) (o : Outcome S) (x : A) (l : List A) → onward f (then o (λ s. f s x)) l ≡ onward f o (x ∷ l)
unfolding walk
onward_next f (Ok s) x l = refl
onward_next f (Err r) x l = refl

-- the end
pub onward_end : {S A : Type 0} (f : S → A → Outcome S) (o : Outcome S) → onward f o [] ≡ o
unfolding walk
onward_end f (Ok s) = refl
onward_end f (Err r) = refl

-- two steps one after the other
pub then_then : {A B C : Type 0} (o : Outcome A) (f : A → Outcome B) (g : B → Outcome C) → then (then o f) g ≡ then o (λ a. then (f a) g)
then_then (Ok a) f g = refl
then_then (Err r) f g = refl

-- ---- what an answer says of the steps that led to it

-- what each turn keeps, the walk keeps
pub walk_keeps : {S A : Type 0} (I : S → Type 0) (f : S → A → Outcome S) (l : List A) → All (λ x. (s s' : S) → f s x ≡ Ok s' → I s → I s') l →
    (s s' : S) → walk f s l ≡ Ok s' → I s → I s'
unfolding walk All
walk_keeps I f [] h s s' e i = rw (same_ok e) at i
walk_keeps I f (x ∷ l) h s s' e i =
    let g = then_ok (f s x) (λ z. walk f z l) s' e in
    walk_keeps I f l h.1 g.0 s' g.2 (h.0 s g.0 g.1 i)

-- what the end of a walk needs of each turn
pub walk_back : {S A : Type 0} (J : S → Type 0) (Q : A → Type 0) (f : S → A → Outcome S) → ((s s' : S) (x : A) → f s x ≡ Ok s' → J s' → J s × Q x) →
    (l : List A) (s s' : S) → walk f s l ≡ Ok s' → J s' → J s × All Q l
unfolding walk All
walk_back J Q f h [] s s' e j = (rw (sym (same_ok e)) at j, tt)
walk_back J Q f h (x ∷ l) s s' e j =
    let g = then_ok (f s x) (λ z. walk f z l) s' e in
    let r = walk_back J Q f h l g.0 s' g.2 j in
    let q = h s g.0 x g.1 r.0 in
    (q.0, (q.1, r.1))

-- where no turn refuses, the walk does not
pub walk_runs : {S A : Type 0} (f : S → A → Outcome S) (l : List A) → All (λ x. (s : S) → (s' : S) × (f s x ≡ Ok s')) l → (s : S) → (s' : S) × (walk f s l ≡ Ok s')
unfolding walk All
walk_runs f [] h s = (s, refl)
walk_runs f (x ∷ l) h s =
    let g = h.0 s in
    let r = walk_runs f l h.1 g.0 in
    (r.0, ap (λ o. then o (λ z. walk f z l)) g.1 ∙ r.1)
