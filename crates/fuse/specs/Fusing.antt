-- Fusing as one call: the facets meet, the cells of each body connect, and the bodies are listed.
use Rattle.std.specs.Prelude.{◌≡◌, refl, ℕ, suc, ◌≤◌, Float, Ok, Err}
use Rattle.std.proofs.Math.Path.{sym, ap, subst}
use Rattle.std.proofs.Common.{◌∙◌, arith}
use mathlib.Core.List.{List, [], ◌∷◌}
use Rattle.std.proofs.Math.ListN.{length}
use Rattle.refusal.specs.declared.Refusal.{Refusal}
use Rattle.refusal.specs.Outcome.{Outcome, each, verdict_of}
use Rattle.refusal.specs.Laws.{stop, go}
use Rattle.sums.specs.Sum.{sum, sum_one, hit, occ, Each}
use Rattle.sums.specs.Keys.{keep}
use Rattle.sums.proofs.KeyLaws.{sum_ext, full_hit, all_each, lone_in}
use Rattle.sums.proofs.CountLaws.{ones}
use Rattle.sums.specs.ComponentLaws.{Ascend}
use Rattle.keys.specs.Rows.{Starts, rows}
use Rattle.groups.specs.Groups.{Grouped}
use Rattle.bodies.specs.Fusing.{Sense, cell_of, keys, check_facets, exterior, faces_of, body_of, materials, fuse}
use Rattle.bodies.specs.ListLaws.{Valid}
use Rattle.bodies.proofs.ListLaws.{spread, size, cells}
use Rattle.interfaces.specs.Facets.{facets_of}
use Rattle.volume.specs.Shell.{Points}
use Rattle.fusing.specs.Groups.{grouped_starts, grouped_rows}
use Rattle.fusing.specs.Bench.{Cycles, few_listed}
use Rattle.assembly.specs.declared.Fused.{Fused}
use Rattle.parts.specs.declared.Parted.{Parted}
use Rattle.assembly.specs.Answer.{Laid}
use Rattle.parts.specs.Cells.{Celled, Parting, valid_cells}

-- What an arrangement hands over: f facets of n cells, each a cycle of points.
pub record Facetted (ps : List Float) (v starts owners : List ℕ) (f n : ℕ) : Type 0 where
  pub points : Points ps v
  pub cycles : Cycles v starts f
  pub owned : f ≤ length owners
  pub cells : Celled owners f n

-- The room of the three slices of the answer.
pub record Shelves (f n : ℕ) (x s b : List ℕ) : Type 0 where
  pub facets : f ≤ length x
  pub sizes : f ≤ length s
  pub bodies : n ≤ length b

-- no class is empty
few_classes : (b : ℕ) (gs : List (List ℕ)) → Ascend b gs → length gs ≤ sum (sum (λ _. 1)) gs
unfolding sum
few_classes b [] a = omega arith
few_classes b (g ∷ gs) a = omega (arith, ap length a.2, sum_one g, few_classes (suc a.0) gs a.5)

module _ (v starts owners : List ℕ) (f n : ℕ) (w : Starts v starts f) (q : Celled owners f n) where
  valid : Valid (facets_of v starts owners f) n
  valid = valid_cells v starts owners f n q

  -- the facets of all bodies are the listed ones
  all_facets : sum (λ c. length (faces_of (facets_of v starts owners f) c)) (materials (facets_of v starts owners f) n) ≤ f
  unfolding faces_of
  all_facets =
      let fs = facets_of v starts owners f in
      let one : Each (λ i. sum (occ (cell_of fs i)) (materials fs n) ≡ 1) (exterior fs) = all_each (λ i. sum (occ (cell_of fs i)) (materials fs n) ≡ 1) (exterior fs)
      (λ i m. (cells fs n valid).once (hit (cell_of fs i)) ∙ full_hit (cell_of fs i) n (valid i (omega (arith, lone_in (keys fs) i m, size fs)))) in
      let z : sum (λ c. length (keep (λ i. occ (cell_of fs i) c) (exterior fs))) (materials fs n) ≡ sum (λ _. 1) (exterior fs) =
      sum_ext (λ c. length (keep (λ i. occ (cell_of fs i) c) (exterior fs))) (λ c. sum (λ _. 1) (keep (λ i. occ (cell_of fs i) c) (exterior fs))) (materials fs n) (λ c. sym (sum_one (keep (λ i. occ (cell_of fs i) c) (exterior fs))))
      ∙ spread (λ _. 1) (cell_of fs) (materials fs n) (exterior fs) one in
      omega (arith, z, sum_one (exterior fs), few_listed v starts owners f (exterior fs) w refl)

  few_bodies : length (materials (facets_of v starts owners f) n) ≤ n
  few_bodies =
      let gs = materials (facets_of v starts owners f) n in
      let found = cells (facets_of v starts owners f) n valid in
      omega (arith, few_classes 0 gs found.ascend, found.once (λ _. 1), ones n)

  module _ (c₀ u₀ c u : List ℕ) (g : ℕ) (p : Grouped (materials (facets_of v starts owners f) n) c₀ u₀ c u g) where
    pub cells_fine : Starts c u g
    cells_fine = grouped_starts (materials (facets_of v starts owners f) n) c₀ u₀ c u g p

    -- there is room for them
    pub cells_bodies : (m : ℕ) → n ≤ m → g ≤ m
    cells_bodies m h = omega (arith, p.many, few_bodies)

    pub cells_facets : (m : ℕ) → f ≤ m → sum (λ c. length (faces_of (facets_of v starts owners f) c)) (rows c u g) ≤ m
    cells_facets m h =
        let z = subst (λ gs. sum (λ c. length (faces_of (facets_of v starts owners f) c)) gs ≤ f) (sym (grouped_rows (materials (facets_of v starts owners f) n) c₀ u₀ c u g p)) all_facets in
        omega arith

  module _ (volume : List ℕ → Outcome Sense) (c₀ u₀ x c u : List ℕ) (o : Outcome Parted) (p : Parting (facets_of v starts owners f) n c₀ u₀ x c u o) (x₀ s₀ b₀ x' s' b' : List ℕ) (m : Outcome Fused) where
    pub fused_refused : (y : Refusal) → o ≡ Err y → m ≡ Err y → Laid (fuse volume (facets_of v starts owners f) n) x₀ s₀ b₀ x' s' b' m
    unfolding fuse Laid verdict_of
    fused_refused y e k = subst (λ o. Laid o x₀ s₀ b₀ x' s' b' m) (sym (stop (check_facets (facets_of v starts owners f)) (λ _. each (body_of volume (facets_of v starts owners f)) [] (materials (facets_of v starts owners f) n)) y (sym p.told ∙ ap verdict_of e))) k

    pub fused_made : (r : Parted) → o ≡ Ok r → Laid (each (body_of volume (facets_of v starts owners f)) [] (rows c u r.groups)) x₀ s₀ b₀ x' s' b' m → Laid (fuse volume (facets_of v starts owners f) n) x₀ s₀ b₀ x' s' b' m
    unfolding fuse verdict_of
    fused_made r e k = subst (λ o. Laid o x₀ s₀ b₀ x' s' b' m)
        (ap (each (body_of volume (facets_of v starts owners f)) []) (grouped_rows (materials (facets_of v starts owners f) n) c₀ u₀ c u r.groups (p.groups r e))
        ∙ sym (go (check_facets (facets_of v starts owners f)) (λ _. each (body_of volume (facets_of v starts owners f)) [] (materials (facets_of v starts owners f) n)) tt (sym p.told ∙ ap verdict_of e))) k
