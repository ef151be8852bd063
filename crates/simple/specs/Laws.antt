-- Laws of the edges of an outline, in the words of the code.
use Rattle.refusal.specs.Outcome.{Outcome}
use Rattle.std.specs.Prelude.{◌≡◌, Bool, true, false, List, ℕ, suc, ◌+◌, ◌-◌, ◌%◌, ◌≤◌, ◌<◌, length, take, get_or, Ok, Err}
use Rattle.std.proofs.Common.{sym, ◌∙◌, arith, add-one, mod-lt, get_or-take, length-take-le}
use Rattle.std.proofs.Math.Path.{ap}
use Rattle.refusal.specs.declared.Refusal.{Refusal}
use Rattle.space.specs.declared.Precision.{Precision}
use Rattle.turns.specs.declared.Projected.{Projected}
use Rattle.turns.specs.declared.Turn.{Turn}
use Rattle.turns.specs.Turns.{orientation_of}
use Rattle.outline.specs.Project.{astray}
use Rattle.simple.specs.Simple.{first_of, each_of, met_by, edges_by, edges_with, edges_of, next_of, pair_of, pair_at, simple_from, simple_of}

-- ---- one turn of a loop that counts i up to n

each_is : (f : ℕ → Outcome Unit) (n i : ℕ) → i < n → each_of f i (n - i) ≡ first_of (f i) (each_of f (i + 1) (n - (i + 1)))
unfolding each_of
each_is f n i h =
    let e : n - i ≡ suc (n - (i + 1)) = omega arith in
    ap (each_of f i) e ∙ ap (λ j. first_of (f i) (each_of f j (n - (i + 1)))) (sym (add-one i))

pub each_go : (f : ℕ → Outcome Unit) (n i : ℕ) → i < n → f i ≡ Ok tt → each_of f i (n - i) ≡ each_of f (i + 1) (n - (i + 1))
unfolding first_of
each_go f n i h e = each_is f n i h ∙ ap (λ v. first_of v (each_of f (i + 1) (n - (i + 1)))) e

pub each_stop : (f : ℕ → Outcome Unit) (n i : ℕ) (r : Refusal) → i < n → f i ≡ Err r → each_of f i (n - i) ≡ Err r
unfolding first_of
each_stop f n i r h e = each_is f n i h ∙ ap (λ v. first_of v (each_of f (i + 1) (n - (i + 1)))) e

pub each_end : (f : ℕ → Outcome Unit) (n i : ℕ) → n ≤ i → each_of f i (n - i) ≡ Ok tt
unfolding each_of
each_end f n i h = let e : n - i ≡ 0 = omega arith in ap (each_of f i) e

-- ---- two edges

module _ (p : Precision) (a b c d : Projected) where
  pub edges_are : (s₀ s₁ s₂ s₃ : Outcome Turn) (m : Bool) (v : Outcome Unit)
      → s₀ ≡ orientation_of p a b c → s₁ ≡ orientation_of p a b d → s₂ ≡ orientation_of p c d a → s₃ ≡ orientation_of p c d b
      → m ≡ met_by p a b c d s₀ s₁ s₂ s₃ → v ≡ edges_by s₀ s₁ s₂ s₃ m → v ≡ edges_of p a b c d
  unfolding edges_of edges_with
  edges_are s₀ s₁ s₂ s₃ m v e₀ e₁ e₂ e₃ f g = cc

  pub pair_next : (b' : Bool) → b' ≡ true → (Ok tt) ≡ pair_of b' p a b c d
  unfolding pair_of
  pair_next b' e = ap (λ x. pair_of x p a b c d) (sym e)

  pub pair_other : (b' : Bool) (v : Outcome Unit) → b' ≡ false → v ≡ edges_of p a b c d → v ≡ pair_of b' p a b c d
  unfolding pair_of
  pair_other b' v e f = f ∙ ap (λ x. pair_of x p a b c d) (sym e)

-- the pair at places i and j of the first n points of an array
pub pair_at_lem : (p : Precision) (l : List Projected) (n i j : ℕ) (k m : ℕ) (b : Bool) (v : Outcome Unit)
    → i < n → j < n → k ≡ (i + 1) % n → m ≡ (j + 1) % n → b ≡ next_of n i j
    → v ≡ pair_of b p (get_or l i astray) (get_or l k astray) (get_or l j astray) (get_or l m astray)
    → v ≡ pair_at p (take n l) n i j
unfolding pair_at
pair_at_lem p l n i j k m b v h g e f q w =
    let pos : 0 < n = omega arith in
    let a₀ = get_or-take n l i astray h in
    let a₁ = get_or-take n l ((i + 1) % n) astray (mod-lt (i + 1) pos) in
    let a₂ = get_or-take n l j astray g in
    let a₃ = get_or-take n l ((j + 1) % n) astray (mod-lt (j + 1) pos) in
    cc

pub simple_start : (p : Precision) (l : List Projected) (n : ℕ) → n ≤ length l → each_of (simple_from p (take n l) n) 0 (n - 0) ≡ simple_of p (take n l)
unfolding simple_of
simple_start p l n h =
    let e : n - 0 ≡ n = omega arith in
    ap (each_of (simple_from p (take n l) n) 0) e ∙ ap (λ m. each_of (simple_from p (take n l) m) 0 m) (sym (length-take-le n l h))
