-- A row of records, each of its own width, written one behind another.
use Rattle.std.specs.Prelude.{◌≡◌, refl, List, [], ◌∷◌, ◌++◌, ℕ, ◌+◌, ◌≤◌, ◌<◌, length}
use Rattle.std.proofs.Common.{sym, ◌∙◌, arith, add-one, length-append, drop_of_length-le, drop-cons}
use Rattle.std.proofs.Math.Path.{ap}
use Rattle.std.proofs.Math.ListN.{get_or, drop}
use Rattle.std.proofs.lemmas.List.Edits.{sets}
use Rattle.std.proofs.Math.Seq.{length-sets}
use Rattle.room.specs.Laws.{sets_append}
use Rattle.writer.specs.Rows.{row}

-- what is written so far, and the rest, give the whole row
pub record Growing {A : Type 0} (e : A → List ℕ) (l : List A) (out₀ : List ℕ) (at : ℕ) (out : List ℕ) (p i : ℕ) : Type 0 where
  pub within : i ≤ length l
  pub same : length out ≡ length out₀
  pub place : p + length (row e (drop i l)) ≡ at + length (row e l)
  pub whole : sets out p (row e (drop i l)) ≡ sets out₀ at (row e l)

pub growing_start : {A : Type 0} (e : A → List ℕ) (l : List A) (out : List ℕ) (at : ℕ) → Growing e l out at out at 0
growing_start e l out at = record { within = omega arith; same = refl; place = refl; whole = refl }

module _ {A : Type 0} (z : A) {e : A → List ℕ} {l : List A} {out₀ : List ℕ} {at : ℕ} {out : List ℕ} {p i : ℕ} (w : Growing e l out₀ at out p i) (h : i < length l) where
  bytes : row e (drop i l) ≡ e (get_or l i z) ++ row e (drop (i + 1) l)
  unfolding row
  bytes = ap (row e) (drop-cons l i z h ∙ ap (λ k. get_or l i z ∷ drop k l) (sym (add-one i)))

  size : length (row e (drop i l)) ≡ length (e (get_or l i z)) + length (row e (drop (i + 1) l))
  size = ap length bytes ∙ length-append (e (get_or l i z)) (row e (drop (i + 1) l))

  pub growing_inside : at + length (row e l) ≤ length out₀ → p + length (e (get_or l i z)) ≤ length out
  growing_inside b = omega (arith, b, w.place, w.same, size)

  pub growing_turn : (out' : List ℕ) (p' : ℕ) → out' ≡ sets out p (e (get_or l i z)) → p' ≡ p + length (e (get_or l i z)) → Growing e l out₀ at out' p' (i + 1)
  growing_turn out' p' q n = record {
    within = omega arith;
    same = ap length q ∙ length-sets out p (e (get_or l i z)) ∙ w.same;
    place = omega (arith, n, w.place, size);
    whole = ap (λ y. sets y p' (row e (drop (i + 1) l))) q ∙ ap (λ k. sets (sets out p (e (get_or l i z))) k (row e (drop (i + 1) l))) n
        ∙ sets_append out p (e (get_or l i z)) (row e (drop (i + 1) l)) ∙ ap (sets out p) (sym bytes) ∙ w.whole;
  }

pub growing_end : {A : Type 0} {e : A → List ℕ} {l : List A} {out₀ : List ℕ} {at : ℕ} {out : List ℕ} {p i : ℕ} → Growing e l out₀ at out p i → length l ≤ i → (p ≡ at + length (row e l)) × (out ≡ sets out₀ at (row e l))
unfolding row
growing_end {A} {e} {l} {out₀} {at} {out} {p} {i} w h =
    let d : row e (drop i l) ≡ [] = ap (row e) (drop_of_length-le l h) in
    (omega (arith, w.place, ap length d), sym (ap (sets out p) d) ∙ w.whole)
