-- The loop over the bodies, in the words of the code: the cells of group i are cells[cuts[i]..cuts[i + 1]].
use Rattle.std.specs.Prelude.{◌≡◌, refl, List, [], ℕ, ◌+◌, ◌-◌, ◌≤◌, ◌<◌, length, get_or, set, take, drop, Ok, Err}
use Rattle.std.proofs.Common.{sym, ap, ◌∙◌, subst, arith}
use Rattle.refusal.specs.declared.Refusal.{Refusal}
use Rattle.refusal.specs.Outcome.{Outcome, each}
use Rattle.refusal.specs.Laws.{same_ok, never_ok}
use Rattle.sums.specs.Sum.{sum}
use Rattle.keys.specs.Rows.{Starts, row, rows, row_at, length_rows}
use Rattle.bodies.specs.Fusing.{Facet, Sense, faces_of, body_of}
use Rattle.cavities.specs.Steps.{part_slice}
use Rattle.fusing.specs.declared.Made.{Made}
use Rattle.fusing.specs.Bodied.{Bodied}
use Rattle.fusing.specs.Bench.{Bench}
use Rattle.assembly.specs.declared.Fused.{Fused}
use Rattle.assembly.specs.Answer.{Laid}
use Rattle.assembly.specs.Walk.{Stepped, Part, Standing, part_start, standing_part, part_end, standing_refused, part_out, part_sizes, part_counts, part_step}

-- ---- one body

module _ (fs : List Facet) (cells cuts : List ℕ) (g i : ℕ) (w : Starts cells cuts g) (h : i < g) where
  -- the cells of a group, as they are lent
  abbrev pub lent_cells : List ℕ
  lent_cells = take (get_or cuts (i + 1) 0 - get_or cuts i 0) (drop (get_or cuts i 0) cells)

  same_cells : lent_cells ≡ row cells cuts i
  same_cells = part_slice (get_or cuts i 0) (get_or cuts (i + 1) 0) cells (w.up i h) (w.inn i h)

  pub step_room : (at n : ℕ) → at + length (faces_of fs (row cells cuts i)) ≤ n → at + length (faces_of fs lent_cells) ≤ n
  step_room at n l = subst (λ c. at + length (faces_of fs c) ≤ n) (sym same_cells) l

  pub stepped : (volume : List ℕ → Outcome Sense) (x s b : List ℕ) (sat at : ℕ) (x' s' b' : List ℕ) (n : Outcome Made) (r : Made) → Bodied (body_of volume fs lent_cells) (length (faces_of fs lent_cells)) x s at sat x' s' n → n ≡ Ok r →
      b' ≡ set b i (r.shells - sat) → Stepped (body_of volume fs (row cells cuts i)) (length (faces_of fs (row cells cuts i))) x s b i sat at x' s' b' (Ok r)
  stepped volume x s b sat at x' s' b' n r e z q = record {
    body = subst (λ c. Bodied (body_of volume fs c) (length (faces_of fs c)) x s at sat x' s' (Ok r)) same_cells (subst (Bodied (body_of volume fs lent_cells) (length (faces_of fs lent_cells)) x s at sat x' s') z e);
    count = λ m y. q ∙ ap (λ r. set b i (r.shells - sat)) (same_ok y);
    kept = λ m y. never_ok (sym y);
  }

  pub step_refused : (volume : List ℕ → Outcome Sense) (x s b : List ℕ) (sat at : ℕ) (x' s' : List ℕ) (n : Outcome Made) (y : Refusal) (u : Outcome Made) → Bodied (body_of volume fs lent_cells) (length (faces_of fs lent_cells)) x s at sat x' s' n → n ≡ Err y →
      u ≡ Err y → Stepped (body_of volume fs (row cells cuts i)) (length (faces_of fs (row cells cuts i))) x s b i sat at x' s' b u
  step_refused volume x s b sat at x' s' n y u e z q = record {
    body = subst (λ c. Bodied (body_of volume fs c) (length (faces_of fs c)) x s at sat x' s' u) same_cells (subst (Bodied (body_of volume fs lent_cells) (length (faces_of fs lent_cells)) x s at sat x' s') (z ∙ sym q) e);
    count = λ m k. never_ok (sym q ∙ k);
    kept = λ m k. refl;
  }

-- ---- all of them

-- The work slices are as long as they came.
pub record Alike (a₀ b₀ c₀ d₀ e₀ f₀ g₀ h₀ a b c d e f g h : List ℕ) : Type 0 where
  pub first : length a ≡ length a₀
  pub second : length b ≡ length b₀
  pub third : length c ≡ length c₀
  pub fourth : length d ≡ length d₀
  pub fifth : length e ≡ length e₀
  pub sixth : length f ≡ length f₀
  pub seventh : length g ≡ length g₀
  pub eighth : length h ≡ length h₀

-- And the answer's.
pub record Sized (x₀ s₀ b₀ x s b : List ℕ) : Type 0 where
  pub out : length x ≡ length x₀
  pub sizes : length s ≡ length s₀
  pub counts : length b ≡ length b₀

pub bench_on : (v : List ℕ) (n : ℕ) (a₀ b₀ c₀ d₀ e₀ f₀ g₀ h₀ a b c d e f g h : List ℕ) → Bench v n a₀ b₀ c₀ d₀ e₀ f₀ g₀ h₀ → Alike a₀ b₀ c₀ d₀ e₀ f₀ g₀ h₀ a b c d e f g h → Bench v n a b c d e f g h
bench_on v n a₀ b₀ c₀ d₀ e₀ f₀ g₀ h₀ a b c d e f g h w q = record {
  faces = omega (arith, w.faces, q.first);
  runs = omega (arith, w.runs, q.second);
  heads = omega (arith, w.heads, q.second);
  keys = omega (arith, w.keys, q.third);
  links = omega (arith, w.links, q.third, q.sixth);
  begins = omega (arith, w.begins, q.fourth);
  flags = omega (arith, w.flags, q.fourth);
  order = omega (arith, w.order, q.fifth);
  stack = omega (arith, w.stack, q.fifth);
  ends = omega (arith, w.ends, q.sixth);
  nodes = omega (arith, w.nodes, q.seventh);
  cuts = omega (arith, w.cuts, q.eighth);
}

module _ (volume : List ℕ → Outcome Sense) (fs : List Facet) (cells cuts : List ℕ) (g : ℕ) (x₀ s₀ b₀ : List ℕ) where
  abbrev pub Walking : List ℕ → List ℕ → List ℕ → Made → ℕ → Type 0
  Walking x s b m i = Part volume fs (rows cells cuts g) x₀ s₀ b₀ x s b i m.shells m.facets

  many : length (rows cells cuts g) ≡ g
  many = length_rows cells cuts g

  pub walking_start : sum (λ c. length (faces_of fs c)) (rows cells cuts g) ≤ length x₀ → sum (λ c. length (faces_of fs c)) (rows cells cuts g) ≤ length s₀ → g ≤ length b₀ → Walking x₀ s₀ b₀ (record { facets = 0; shells = 0 }) 0
  walking_start h l m = part_start volume fs (rows cells cuts g) x₀ s₀ b₀ h l (omega (arith, many))

  module _ (x s b : List ℕ) (m : Made) (i : ℕ) (h : i < g) (w : Walking x s b m i) where
    inn : i < length (rows cells cuts g)
    inn = omega (arith, many)

    here : get_or (rows cells cuts g) i [] ≡ row cells cuts i
    here = row_at cells cuts g i h

    -- what a turn asks
    pub walking_out : m.facets + length (faces_of fs (row cells cuts i)) ≤ length x
    walking_out = subst (λ c. m.facets + length (faces_of fs c) ≤ length x) here (part_out volume fs (rows cells cuts g) x₀ s₀ b₀ x s b i m.shells m.facets inn w)

    pub walking_sizes : m.shells + length (faces_of fs (row cells cuts i)) ≤ length s
    walking_sizes = subst (λ c. m.shells + length (faces_of fs c) ≤ length s) here (part_sizes volume fs (rows cells cuts g) x₀ s₀ b₀ x s b i m.shells m.facets inn w)

    pub walking_counts : i < length b
    walking_counts = part_counts volume fs (rows cells cuts g) x₀ s₀ b₀ x s b i m.shells m.facets inn w

    module _ (x' s' b' : List ℕ) (n : Outcome Made) (t : Stepped (body_of volume fs (row cells cuts i)) (length (faces_of fs (row cells cuts i))) x s b i m.shells m.facets x' s' b' n) where
      turn : Standing volume fs (rows cells cuts g) x₀ s₀ b₀ x' s' b' (i + 1) n
      turn = part_step volume fs (rows cells cuts g) x₀ s₀ b₀ x s b i m.shells m.facets inn w x' s' b' n
          (subst (λ c. Stepped (body_of volume fs c) (length (faces_of fs c)) x s b i m.shells m.facets x' s' b' n) (sym here) t)

      pub walking_step : (r : Made) → n ≡ Ok r → Walking x' s' b' r (i + 1)
      walking_step r z = standing_part volume fs (rows cells cuts g) x₀ s₀ b₀ x' s' b' (i + 1) n r z turn

      pub walking_refused : (y : Refusal) (u : Outcome Fused) → n ≡ Err y → u ≡ Err y → Laid (each (body_of volume fs) [] (rows cells cuts g)) x₀ s₀ b₀ x' s' b' u
      walking_refused y u z e = standing_refused volume fs (rows cells cuts g) x₀ s₀ b₀ x' s' b' (i + 1) n y u z e turn

  pub walking_end : (x s b : List ℕ) (m : Made) (i : ℕ) → g ≤ i → Walking x s b m i → Laid (each (body_of volume fs) [] (rows cells cuts g)) x₀ s₀ b₀ x s b (Ok (record { bodies = g; shells = m.shells; facets = m.facets }))
  walking_end x s b m i h w = part_end volume fs (rows cells cuts g) x₀ s₀ b₀ x s b i m.shells m.facets g (omega (arith, many)) (omega (arith, many, w.upto)) w
