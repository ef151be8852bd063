-- Runs of stores over one another, and one more entry among those that are stored.
use Rattle.std.specs.Prelude.{◌≡◌, refl, List, [], ◌∷◌, ◌++◌, ℕ, suc, ◌+◌, ◌≤◌, ◌<◌, length, take, drop, set}
use Rattle.std.proofs.Common.{sym, ap, ◌∙◌, arith, not-suc-le-zero, le_of_suc-le-suc, zero-add, take-append-drop, set-set, length-take-le}
use Rattle.std.proofs.lemmas.List.Edits.{sets, sets-eq}
use Rattle.std.proofs.lemmas.List.{set_comm}
use Rattle.std.proofs.Math.Seq.{take-append_seam}
use Rattle.room.specs.Laws.{sets_append}

module _ {ℓ} {A : Type ℓ} where
  pub sets_set : (l : List A) (i k : ℕ) (x : A) (v : List A) → i < k → sets (set l i x) k v ≡ set (sets l k v) i x
  sets_set l i k x [] h = refl
  sets_set l i k x (y ∷ v) h = ap (λ z. sets z (suc k) v) (set_comm l i k x y (λ e. omega arith)) ∙ sets_set (set l k y) i (suc k) x v (omega arith)

  -- a run of stores over another that is no longer
  pub sets_over : (l : List A) (i : ℕ) (a b : List A) → length a ≤ length b → sets (sets l i a) i b ≡ sets l i b
  sets_over l i [] b h = refl
  sets_over l i (x ∷ a) [] h = absurd (not-suc-le-zero h)
  sets_over l i (x ∷ a) (y ∷ b) h =
      ap (λ z. sets (set z i y) (suc i) b) (sets_set l i (suc i) x a (omega arith))
      ∙ ap (λ z. sets z (suc i) b) (set-set (sets l (suc i) a) i x y ∙ sym (sets_set l i (suc i) y a (omega arith)))
      ∙ sets_over (set l i y) (suc i) a b (le_of_suc-le-suc h)

  -- what is stored from the first place on is read there
  pub stored_take : (d a : List A) (m : ℕ) → length a ≡ m → m ≤ length d → take m (sets d 0 a) ≡ a
  stored_take d a m e h =
      ap (λ k. take k (sets d 0 a)) (sym e) ∙ ap (take (length a)) (sets-eq a d 0 (omega arith)) ∙ take-append_seam a (drop (0 + length a) d)

  -- x at place p of those that are stored, the others moved on by one
  pub stored_put : (d a : List A) (p : ℕ) (x : A) → p ≤ length a → sets (sets d 0 a) p (x ∷ drop p a) ≡ sets d 0 (take p a ++ (x ∷ drop p a))
  stored_put d a p x h =
      let b = take p a in
      let c = drop p a in
      let n : 0 + length (take p a) ≡ p = zero-add (length (take p a)) ∙ length-take-le p a h in
      let e : sets d 0 a ≡ sets (sets d 0 (take p a)) p (drop p a)
      = ap (sets d 0) (sym (take-append-drop p a)) ∙ sym (sets_append d 0 (take p a) (drop p a)) ∙ ap (λ k. sets (sets d 0 (take p a)) k (drop p a)) n in
      ap (λ z. sets z p (x ∷ c)) e ∙ sets_over (sets d 0 b) p c (x ∷ c) (omega arith)
      ∙ ap (λ k. sets (sets d 0 b) k (x ∷ c)) (sym n) ∙ sets_append d 0 b (x ∷ c)
