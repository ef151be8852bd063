-- What holds of every point of a list holds of every point that `unique` keeps.
use Rattle.std.specs.Prelude.{◌≡◌, refl, ◌⊎◌, Ok, Err}
use Rattle.std.proofs.Common.{sym, ◌∙◌, inl, inr}
use Rattle.std.proofs.Math.Path.{subst}
use mathlib.Core.List.{List, [], ◌∷◌, ◌++◌}
use Rattle.std.proofs.Math.Logic.{⊎_elim}
use Rattle.refusal.specs.declared.Refusal.{Refusal}
use Rattle.refusal.specs.Outcome.{Outcome, walk}
use Rattle.refusal.specs.Laws.{walk_end, same_ok, never_ok}
use Rattle.space.specs.declared.Point3.{Point3}
use Rattle.space.specs.declared.Precision.{Precision}
use Rattle.space.specs.declared.Closeness.{Closeness}
use Rattle.space.specs.declared.Closeness.TheVariants.{Near, Apart}
use Rattle.polygon.specs.Unique.{scan, keep_one, unique}
use Rattle.polygon.specs.Laws.{keep_near, keep_apart, keep_refused}

-- every element has P
unfoldable pub All : {A : Type 0} → (A → Type 0) → List A → Type 0
All P [] = Unit
All P (x ∷ l) = P x × All P l

-- ---- lists

module _ {A : Type 0} (P : A → Type 0) where
  pub all_append : (a b : List A) → All P a → All P b → All P (a ++ b)
  unfolding All
  all_append [] b p q = q
  all_append (x ∷ a) b p q = (p.0, all_append a b p.1 q)

-- ---- unique

ways : (c : Outcome Closeness) → (c ≡ Ok Near) ⊎ ((c ≡ Ok Apart) ⊎ ((r : Refusal) × (c ≡ Err r)))
ways (Ok Near) = inl refl
ways (Ok Apart) = inr (inl refl)
ways (Err r) = inr (inr (r, refl))

module _ (P : Point3 → Type 0) (t : Precision) where
  kept_all : (kept l k : List Point3) → All P kept → All P l → walk (keep_one t) kept l ≡ Ok k → All P k
  unfolding All
  kept_all kept [] k a b e = subst (All P) (same_ok (sym (walk_end (keep_one t) kept) ∙ e)) a
  kept_all kept (q ∷ l) k a b e =
      ⊎_elim
      (λ n. kept_all kept l k a b.1 (sym (keep_near t kept q l n) ∙ e))
      (⊎_elim
      (λ n. kept_all (kept ++ (q ∷ [])) l k (all_append P kept (q ∷ []) a (b.0, tt)) b.1 (sym (keep_apart t kept q l n) ∙ e))
      (λ n. never_ok (sym (keep_refused t kept q l n.0 n.1) ∙ e)))
      (ways (scan t q (Ok Apart) kept))

  pub unique_all : (l k : List Point3) → All P l → unique t l ≡ Ok k → All P k
  unfolding All unique
  unique_all l k a e = kept_all [] l k tt a e
