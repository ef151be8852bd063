-- Laws of the two parts of a cell, in the words of the code.
use Rattle.std.specs.Prelude.{◌≡◌, refl, Bool, true, false, List, ℕ, length, ltb, Float, Ok, Err}
use Rattle.std.proofs.Common.{sym, ap, ◌∙◌, subst}
use Rattle.refusal.specs.declared.Refusal.{Refusal}
use Rattle.refusal.specs.Outcome.{Outcome, refusal_of, then, unless}
use Rattle.space.specs.declared.Plane.{Plane}
use Rattle.space.specs.declared.Precision.{Precision}
use Rattle.space.specs.Shapes.{Cell}
use Rattle.room.specs.Steps.{then_then}
use Rattle.stack.specs.declared.Stack.{Stack}
use Rattle.stack.specs.Stacks.{add_cut, stack_of, list_at, Listed}
use Rattle.stack.specs.Laws.{listed_is, listed_refused}
use Rattle.split.specs.Splits.{budget, split_cell, capped}

-- ---- the budget, in the words of the code

pub over : (b : Bool) (s : Stack) (e : Refusal) (r : Stack) → b ≡ true → e ≡ refusal_of 11 → r ≡ stack_of (Err e) → r ≡ capped b s
unfolding capped
over b s e r q ee er = er ∙ ap (λ y. stack_of (Err y)) ee ∙ ap (λ y. capped y s) (sym q)

pub under : (b : Bool) (s : Stack) → b ≡ false → s ≡ capped b s
unfolding capped
under b s q = ap (λ y. capped y s) (sym q)

capped_by : (room : ℕ) (cs : List Cell) (s : Stack) (d : List Float) (n z : List ℕ) (b : Bool) → Listed room (Ok cs) s d n z → Listed room (unless b 11 (Ok cs)) (capped b s) d n z
unfolding capped
capped_by room cs s d n z true l = listed_refused room (refusal_of 11) (stack_of (Err (refusal_of 11))) d n z refl
capped_by room cs s d n z false l = l

pub capped_listed : (room : ℕ) (o : Outcome (List Cell)) (s r : Stack) (d : List Float) (n z : List ℕ) → Listed room o s d n z → r ≡ capped (ltb 512 s.cells) s → Listed room (then o budget) r d n z
unfolding budget stack_of
capped_listed room (Ok cs) s r d n z l e =
    subst (λ y. Listed room (budget cs) y d n z) (sym (e ∙ ap (λ k. capped (ltb 512 k) s) (ap (λ y. y.cells) l.is))) (capped_by room cs s d n z (ltb 512 (length cs)) l)
capped_listed room (Err x) s r d n z l e =
    subst (λ y. Listed room (Err x) y d n z) (under (ltb 512 s.cells) s (ap (λ y. ltb 512 y.cells) l.is) ∙ sym e) l

-- ---- both parts

pub split_listed : (t : Precision) (room : ℕ) (p o : Plane) (c : Cell) (s a b r : Stack) (d : List Float) (n z : List ℕ) (d' : List Float) (n' z' : List ℕ) (d'' : List Float) (n'' z'' : List ℕ) →
    Listed room (then (list_at s d n z) (add_cut t room p c)) a d' n' z' → Listed room (then (list_at a d' n' z') (add_cut t room o c)) b d'' n'' z'' → r ≡ capped (ltb 512 b.cells) b →
    Listed room (then (list_at s d n z) (split_cell t room p o c)) r d'' n'' z''
unfolding split_cell
split_listed t room p o c s a b r d n z d' n' z' d'' n'' z'' x y e =
    let u = list_at s d n z in
    let q : then (then (list_at a d' n' z') (add_cut t room o c)) budget ≡ then (list_at s d n z) (λ k. then (add_cut t room p c k) (λ m. then (add_cut t room o c m) budget)) =
    then_then (list_at a d' n' z') (add_cut t room o c) budget
    ∙ ap (λ k. then k (λ m. then (add_cut t room o c m) budget)) (listed_is room (then u (add_cut t room p c)) a d' n' z' x)
    ∙ then_then u (add_cut t room p c) (λ m. then (add_cut t room o c m) budget) in
    subst (λ k. Listed room k r d'' n'' z'') q (capped_listed room _ b r d'' n'' z'' y e)
