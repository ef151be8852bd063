-- Laws of a vertex and the faces that meet it.
use Rattle.std.specs.Prelude.{◌≡◌, refl, Bool, true, false, not, cond, List, [], ◌∷◌, ◌++◌, ℕ, ◌+◌, ◌≤◌, length, eqb, Err}
use Rattle.std.proofs.Common.{sym, ◌∙◌, arith, length-append, eq-eqb, ne_eqb}
use Rattle.std.proofs.Math.Path.{ap}
use Rattle.refusal.specs.declared.Refusal.{Refusal}
use Rattle.refusal.specs.Outcome.{Outcome, refusal_of, unless}
use Rattle.space.specs.declared.Point3.{Point3}
use Rattle.space.specs.declared.Precision.{Precision}
use Rattle.space.specs.Vector.{add_v, cross_v}
use Rattle.shift.specs.declared.Push.{Push}
use Rattle.shift.specs.declared.Meeting.{Meeting}
use Rattle.shift.specs.Shifts.{meeting, noted, noted_if, push_if, delta_of, moved_to, flat, moved_by, moved_at}

-- a place that is taken already
taken : (n k : ℕ) (p q : Push) → (n ≡ k → ⊥) → cond (eqb n k) p q ≡ q
taken n k p q e = ap (λ b. cond b p q) (ne_eqb n k e)

-- one face more behind the others
more : (l : List Push) (p : Push) → noted (meeting l) p ≡ meeting (l ++ (p ∷ []))
unfolding meeting noted
more [] p = refl
more (x ∷ []) p = refl
more (x ∷ y ∷ []) p = refl
more (x ∷ y ∷ z ∷ l) p =
    let n = length (x ∷ y ∷ z ∷ l) in
    let a : cond (eqb (length (x ∷ y ∷ z ∷ l)) 0) p x ≡ x = taken n 0 p x (λ e. omega (arith, e)) in
    let b : cond (eqb (length (x ∷ y ∷ z ∷ l)) 1) p y ≡ y = taken n 1 p y (λ e. omega (arith, e)) in
    let c : cond (eqb (length (x ∷ y ∷ z ∷ l)) 2) p z ≡ z = taken n 2 p z (λ e. omega (arith, e)) in
    let k : length (x ∷ y ∷ z ∷ l) + 1 ≡ length (x ∷ y ∷ z ∷ (l ++ (p ∷ []))) = omega (arith, length-append l (p ∷ [])) in
    λ i. record { a = a i; b = b i; c = c i; n = k i }

pub meeting_next : (b : Bool) (l : List Push) (p : Push) → noted_if b (meeting l) p ≡ meeting (push_if b l p)
unfolding noted_if push_if
meeting_next true l p = more l p
meeting_next false l p = refl

-- how many there are
pub meeting_count : (b : Bool) (l : List Push) (p : Push) (j : ℕ) → length l ≤ j → length (push_if b l p) ≤ j + 1
unfolding push_if
meeting_count true l p j h = omega (arith, length-append l (p ∷ []))
meeting_count false l p j h = omega arith

-- ---- the two ways of a vertex with three faces, and of one with another number

module _ (t : Precision) (a b c : Push) (p n : Point3) where
  pub by_flat : (f : Bool) (r : Refusal) → f ≡ flat a n → f ≡ true → r ≡ refusal_of 25 → Err r ≡ moved_by t a b c p n
  unfolding moved_by
  by_flat f r e y z = ap Err z ∙ ap (λ x. unless x 25 (moved_to t a b c p (add_v p (delta_of a b c n)))) (sym y ∙ e)

  pub by_steep : (f : Bool) (d q : Point3) (o : Outcome Point3) → f ≡ flat a n → f ≡ false → d ≡ delta_of a b c n → q ≡ add_v p d → o ≡ moved_to t a b c p q → o ≡ moved_by t a b c p n
  unfolding moved_by
  by_steep f d q o e y g h w =
      w ∙ ap (moved_to t a b c p) (h ∙ ap (add_v p) g) ∙ ap (λ x. unless x 25 (moved_to t a b c p (add_v p (delta_of a b c n)))) (sym y ∙ e)

module _ (t : Precision) (p : Point3) (m : Meeting) where
  abbrev three : Outcome Point3
  three = moved_by t m.a m.b m.c p (cross_v m.b.normal m.c.normal)

  pub at_other : (r : Refusal) → (m.n ≡ 3 → ⊥) → r ≡ refusal_of 24 → Err r ≡ moved_at t p m
  unfolding moved_at
  at_other r e z = ap Err z ∙ ap (λ x. unless (not x) 24 three) (sym (ne_eqb _ _ e))

  pub at_three : (n : Point3) (o : Outcome Point3) → m.n ≡ 3 → n ≡ cross_v m.b.normal m.c.normal → o ≡ moved_by t m.a m.b m.c p n → o ≡ moved_at t p m
  unfolding moved_at
  at_three n o e h w = w ∙ ap (moved_by t m.a m.b m.c p) h ∙ ap (λ x. unless (not x) 24 three) (sym (eq-eqb _ _ e))
