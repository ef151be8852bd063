-- A slice filled with one number.
use Rattle.std.specs.Prelude.{◌≡◌, refl, List, ◌∷◌, ◌++◌, ℕ, zero, suc, ◌+◌, ◌≤◌, ◌<◌, length, get_or, set, drop, replicate}
use Rattle.std.proofs.Common.{sym, ap, ◌∙◌, append-nil, arith, add-one, length-set, drop-cons}
use Rattle.std.proofs.lemmas.List.{length-replicate, set_at}
use Rattle.std.proofs.Math.Seq.{drop-length}

pub record Filling (x : ℕ) (s₀ s : List ℕ) (i : ℕ) : Type 0 where
  pub same : s ≡ replicate i x ++ drop i s₀
  pub upto : i ≤ length s₀
  pub size : length s ≡ length s₀

one_more : (x i : ℕ) (l : List ℕ) → replicate i x ++ (x ∷ l) ≡ replicate (suc i) x ++ l
one_more x zero l = refl
one_more x (suc i) l = ap (λ r. x ∷ r) (one_more x i l)

pub filling_start : (x : ℕ) (s : List ℕ) → Filling x s s 0
filling_start x s = record { same = refl; upto = omega arith; size = refl }

pub filling_step : (x : ℕ) (s₀ s : List ℕ) (i : ℕ) → i < length s → Filling x s₀ s i → Filling x s₀ (set s i x) (i + 1)
filling_step x s₀ s i h q = record {
  same = ap (λ l. set l i x) (q.same ∙ ap (λ l. replicate i x ++ l) (drop-cons s₀ i 0 (omega (arith, q.size)))) ∙ set_at (replicate i x) (get_or s₀ i 0) (drop (suc i) s₀) x i (length-replicate i x)
      ∙ one_more x i (drop (suc i) s₀) ∙ ap (λ k. replicate k x ++ drop k s₀) (sym (add-one i));
  upto = omega (arith, q.size);
  size = length-set s i x ∙ q.size;
}

pub filling_end : (x : ℕ) (s₀ s : List ℕ) (i : ℕ) → length s ≤ i → Filling x s₀ s i → s ≡ replicate (length s₀) x
filling_end x s₀ s i h q =
    let e : i ≡ length s₀ = omega (arith, q.upto, q.size) in
    q.same ∙ ap (λ k. replicate k x ++ drop k s₀) e ∙ ap (λ l. replicate (length s₀) x ++ l) (drop-length s₀) ∙ append-nil (replicate (length s₀) x)
