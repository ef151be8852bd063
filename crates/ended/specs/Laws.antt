-- Laws of the end of a call, in the words of the code.
use Rattle.std.specs.Prelude.{◌≡◌, refl, List, ℕ, ◌*◌, ◌≤◌, ◌<◌, length, ltb, Ok, Err}
use Rattle.std.proofs.Common.{sym, ◌∙◌, lt-ltb, le-ltb}
use Rattle.std.proofs.Math.Path.{ap, subst}
use Rattle.std.proofs.lemmas.List.Edits.{sets}
use Rattle.refusal.specs.declared.Refusal.{Refusal}
use Rattle.refusal.specs.Outcome.{Outcome, refusal_of, unless}
use Rattle.ended.specs.declared.Ended.{Ended}
use Rattle.ended.specs.Ends.{fitted, answered, stopped, Handed, ended_of, told_by, told_of}

module _ (o : Outcome (List ℕ)) (a₀ a : List ℕ) (r : Ended) where
  -- a step refused
  pub handed_not : (x : Refusal) → o ≡ Err x → r ≡ stopped x → a ≡ a₀ → Handed (fitted (length a₀) o) a₀ a r
  unfolding fitted Handed
  handed_not x e h g = subst (λ z. Handed (fitted (length a₀) z) a₀ a r) (sym e) (h, g)

  -- the bytes are too many
  pub handed_full : (l : List ℕ) (x : Refusal) → o ≡ Ok l → length a₀ < length l → x ≡ refusal_of 12 → r ≡ stopped x → a ≡ a₀ → Handed (fitted (length a₀) o) a₀ a r
  unfolding fitted Handed
  handed_full l x e n y h g =
      let z : fitted (length a₀) o ≡ Err x = ap (fitted (length a₀)) e ∙ ap (λ b. unless b 12 (Ok l)) (lt-ltb (length a₀) (length l) n) ∙ ap Err (sym y) in
      subst (λ w. Handed w a₀ a r) (sym z) (h, g)

  pub handed_all : (l : List ℕ) → o ≡ Ok l → length l ≤ length a₀ → r ≡ answered (length l) → a ≡ sets a₀ 0 l → Handed (fitted (length a₀) o) a₀ a r
  unfolding fitted Handed
  handed_all l e n h g =
      let z : fitted (length a₀) o ≡ Ok l = ap (fitted (length a₀)) e ∙ ap (λ b. unless b 12 (Ok l)) (le-ltb (length a₀) (length l) n) in
      subst (λ w. Handed w a₀ a r) (sym z) (h, g)

-- ---- what is handed back

pub told_fine : (v : Outcome Unit) (n : ℕ) → v ≡ Ok tt → 256 * n ≡ told_by v n
unfolding told_by
told_fine v n e = ap (λ w. told_by w n) (sym e)

pub told_refused : (v : Outcome Unit) (n : ℕ) (r : Refusal) → v ≡ Err r → r.number ≡ told_by v n
unfolding told_by
told_refused v n r e = ap (λ w. told_by w n) (sym e)

pub told_of_lem : (o : Outcome (List ℕ)) → told_by (ended_of o).verdict (ended_of o).bytes ≡ told_of o
unfolding told_by told_of ended_of
told_of_lem (Ok l) = refl
told_of_lem (Err r) = refl
