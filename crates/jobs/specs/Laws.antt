-- Laws of a call's beginning, in the words of the code.
use Rattle.std.specs.Prelude.{◌≡◌, refl, Bool, true, false, not, List, ℕ, length, Float, Ok, Err}
use Rattle.std.proofs.Common.{sym, ◌∙◌}
use Rattle.std.proofs.Math.Path.{ap, ap₂, subst}
use Rattle.std.proofs.lemmas.Bool.{not-false}
use Rattle.refusal.specs.declared.Refusal.{Refusal}
use Rattle.refusal.specs.Outcome.{Outcome, refusal_of, then, unless}
use Rattle.refusal.specs.Laws.{stop, go, same_ok, never_ok, then_ok, unless_ok}
use Rattle.space.specs.Vector.{fair_precision}
use Rattle.space.specs.Shapes.{Cell}
use Rattle.room.specs.Rooms.{cell_at, counts_at}
use Rattle.job.specs.declared.Layout.{Layout}
use Rattle.job.specs.declared.CellLayout.{CellLayout}
use Rattle.job.specs.Read.{layout_of, cell_layout, solid_at}
use Rattle.solid_check.specs.Check.{check}
use Rattle.intake.specs.Intake.{taken_of, Stands, Took}
use Rattle.intake.specs.Layouts.{Stood, cell_stood, job_stood}
use Rattle.jobs.specs.declared.Pair.{Pair}
use Rattle.jobs.specs.Jobs.{open_with, open_job, open_cell_with, open_cell, Both, with_second, both_of, pair_of, TookBoth}

-- ---- the room and the tolerances

module _ (y : Layout) where
  pub open_small : (lends : Bool) (r : Refusal) → r ≡ refusal_of 12 → lends ≡ false → (Err r) ≡ open_with lends y
  unfolding open_with
  open_small lends r h e = ap Err h ∙ ap (λ b. unless (not b) 12 (unless (not (fair_precision y.precision)) 2 (Ok y))) (sym e)

  pub open_unfair : (lends f : Bool) (r : Refusal) → r ≡ refusal_of 2 → lends ≡ true → f ≡ fair_precision y.precision → f ≡ false → (Err r) ≡ open_with lends y
  unfolding open_with
  open_unfair lends f r h e g k =
      ap Err h ∙ ap (λ b. unless (not b) 2 (Ok y)) (sym k ∙ g) ∙ ap (λ b. unless (not b) 12 (unless (not (fair_precision y.precision)) 2 (Ok y))) (sym e)

  pub open_fine : (lends f : Bool) → lends ≡ true → f ≡ fair_precision y.precision → f ≡ true → (Ok y) ≡ open_with lends y
  unfolding open_with
  open_fine lends f e g k = ap (λ b. unless (not b) 2 (Ok y)) (sym k ∙ g) ∙ ap (λ b. unless (not b) 12 (unless (not (fair_precision y.precision)) 2 (Ok y))) (sym e)

module _ (y : CellLayout) where
  pub cell_small : (lends : Bool) (r : Refusal) → r ≡ refusal_of 12 → lends ≡ false → (Err r) ≡ open_cell_with lends y
  unfolding open_cell_with
  cell_small lends r h e = ap Err h ∙ ap (λ b. unless (not b) 12 (unless (not (fair_precision y.precision)) 2 (Ok y))) (sym e)

  pub cell_unfair : (lends f : Bool) (r : Refusal) → r ≡ refusal_of 2 → lends ≡ true → f ≡ fair_precision y.precision → f ≡ false → (Err r) ≡ open_cell_with lends y
  unfolding open_cell_with
  cell_unfair lends f r h e g k =
      ap Err h ∙ ap (λ b. unless (not b) 2 (Ok y)) (sym k ∙ g) ∙ ap (λ b. unless (not b) 12 (unless (not (fair_precision y.precision)) 2 (Ok y))) (sym e)

  pub cell_fine : (lends f : Bool) → lends ≡ true → f ≡ fair_precision y.precision → f ≡ true → (Ok y) ≡ open_cell_with lends y
  unfolding open_cell_with
  cell_fine lends f e g k = ap (λ b. unless (not b) 2 (Ok y)) (sym k ∙ g) ∙ ap (λ b. unless (not b) 12 (unless (not (fair_precision y.precision)) 2 (Ok y))) (sym e)

-- ---- the bytes

pub job_made : (lends : Bool) (l : List ℕ) (c r : Outcome Layout) (y : Layout) → c ≡ layout_of l → c ≡ Ok y → r ≡ open_with lends y → r ≡ open_job lends l
unfolding open_job
job_made lends l c r y e g h = h ∙ sym (go (layout_of l) (open_with lends) y (sym e ∙ g))

pub job_refused : (lends : Bool) (l : List ℕ) (c : Outcome Layout) (r : Refusal) → c ≡ layout_of l → c ≡ Err r → (Err r) ≡ open_job lends l
unfolding open_job
job_refused lends l c r e g = sym (stop (layout_of l) (open_with lends) r (sym e ∙ g))

pub cell_made : (lends : Bool) (l : List ℕ) (c r : Outcome CellLayout) (y : CellLayout) → c ≡ cell_layout l → c ≡ Ok y → r ≡ open_cell_with lends y → r ≡ open_cell lends l
unfolding open_cell
cell_made lends l c r y e g h = h ∙ sym (go (cell_layout l) (open_cell_with lends) y (sym e ∙ g))

pub cell_refused : (lends : Bool) (l : List ℕ) (c : Outcome CellLayout) (r : Refusal) → c ≡ cell_layout l → c ≡ Err r → (Err r) ≡ open_cell lends l
unfolding open_cell
cell_refused lends l c r e g = sym (stop (cell_layout l) (open_cell_with lends) r (sym e ∙ g))

-- an opened call's solids stand in the bytes, and enough is lent
pub job_opened : (lends : Bool) (l : List ℕ) (y : Layout) → open_job lends l ≡ Ok y → (lends ≡ true) × Stood l y.first × Stood l y.second
unfolding open_job open_with
job_opened lends l y e =
    let w = then_ok (layout_of l) (open_with lends) y e in
    let a = unless_ok (not lends) 12 (unless (not (fair_precision w.0.precision)) 2 (Ok w.0)) y w.2 in
    let b = unless_ok (not (fair_precision w.0.precision)) 2 (Ok w.0) y a.1 in
    let s = job_stood l y (w.1 ∙ b.1) in
    (not-false lends a.0, s.0, s.1)

pub cell_opened : (lends : Bool) (l : List ℕ) (y : CellLayout) → open_cell lends l ≡ Ok y → (lends ≡ true) × Stood l y.solid
unfolding open_cell open_cell_with
cell_opened lends l y e =
    let w = then_ok (cell_layout l) (open_cell_with lends) y e in
    let a = unless_ok (not lends) 12 (unless (not (fair_precision w.0.precision)) 2 (Ok w.0)) y w.2 in
    let b = unless_ok (not (fair_precision w.0.precision)) 2 (Ok w.0) y a.1 in
    (not-false lends a.0, cell_stood l y (w.1 ∙ b.1))

-- ---- the two solids

-- what was taken tells the outcome
same_refused : {A : Type 0} {p q : Refusal} → ◌≡◌ {A = Outcome A} (Err p) (Err q) → p ≡ q
same_refused h = cc

pub taken_fine : (o : Outcome Cell) (r : Outcome ℕ) (n : ℕ) → r ≡ taken_of o → r ≡ Ok n → (c : Cell) × (o ≡ Ok c) × (n ≡ length c)
unfolding taken_of
taken_fine (Ok c) r n e v = (c, refl, same_ok (sym v ∙ e))
taken_fine (Err q) r n e v = never_ok (sym e ∙ v)

pub taken_not : (o : Outcome Cell) (r : Outcome ℕ) (q : Refusal) → r ≡ taken_of o → r ≡ Err q → o ≡ Err q
unfolding taken_of
taken_not (Ok c) r q e v = never_ok (sym v ∙ e)
taken_not (Err p) r q e v = ap Err (same_refused (sym e ∙ v))

module _ (l : List ℕ) (y : Layout) (a : List Float) (held : List ℕ) (b : List Float) (counts : List ℕ) where
  abbrev one : Outcome Cell
  one = check true y.precision (solid_at l y.first)

  abbrev two : Outcome Cell
  two = check true y.precision (solid_at l y.second)

  refused_both : (q : Refusal) (r : Outcome Pair) → both_of l y ≡ Err q → r ≡ Err q → TookBoth (both_of l y) r a held b counts
  unfolding pair_of
  refused_both q r e g =
      record { is = g ∙ sym (ap pair_of e); first = λ p h. never_ok (sym e ∙ h); second = λ p h. never_ok (sym e ∙ h) }

  pub both_stop : (f : Outcome ℕ) (q : Refusal) (r : Outcome Pair) (a₀ : List Float) (h₀ : List ℕ) → Took one f a₀ h₀ → f ≡ Err q → r ≡ Err q → TookBoth (both_of l y) r a held b counts
  unfolding both_of
  both_stop f q r a₀ h₀ T e g = refused_both q r (stop one (with_second l y) q (taken_not one f q T.is e)) g

  pub both_refused : (f s : Outcome ℕ) (n : ℕ) (q : Refusal) (r : Outcome Pair) → Took one f a held → f ≡ Ok n → Took two s b counts → s ≡ Err q → r ≡ Err q → TookBoth (both_of l y) r a held b counts
  unfolding both_of
  both_refused f s n q r T e U h g =
      let x = taken_fine one f n T.is e in
      refused_both q r (go one (with_second l y) x.0 x.1 ∙ stop two (λ c. Ok (record { first = x.0; second = c })) q (taken_not two s q U.is h)) g

  pub both_go : (f s : Outcome ℕ) (n m : ℕ) → Took one f a held → f ≡ Ok n → Took two s b counts → s ≡ Ok m → TookBoth (both_of l y) (Ok (record { first = n; second = m })) a held b counts
  unfolding both_of pair_of
  both_go f s n m T e U h =
      let x = taken_fine one f n T.is e in
      let z = taken_fine two s m U.is h in
      let o : both_of l y ≡ Ok (record { first = x.0; second = z.0 }) = go one (with_second l y) x.0 x.1 ∙ go two (λ c. Ok (record { first = x.0; second = c })) z.0 z.1 in
      record {
        is = ap₂ (λ i j. Ok (record { first = i; second = j })) x.2 z.2 ∙ sym (ap pair_of o);
        first = λ p i.
            let q : record { first = x.0; second = z.0 } ≡ p = same_ok (sym o ∙ i) in
            subst (λ c. Stands c.first (length c.first) a held) q (T.holds x.0 x.1);
        second = λ p i.
            let q : record { first = x.0; second = z.0 } ≡ p = same_ok (sym o ∙ i) in
            subst (λ c. Stands c.second (length c.second) b counts) q (U.holds z.0 z.1);
      }

-- ---- what comes behind the two solids

pair_fine : (o : Outcome Both) (r : Outcome Pair) (n : Pair) → r ≡ pair_of o → r ≡ Ok n → (p : Both) × (o ≡ Ok p) × (n.first ≡ length p.first) × (n.second ≡ length p.second)
unfolding pair_of
pair_fine (Ok p) r n e v =
    let k : n ≡ record { first = length p.first; second = length p.second } = same_ok (sym v ∙ e) in
    (p, refl, ap (λ x. x.first) k, ap (λ x. x.second) k)
pair_fine (Err q) r n e v = never_ok (sym e ∙ v)

pair_not : (o : Outcome Both) (r : Outcome Pair) (q : Refusal) → r ≡ pair_of o → r ≡ Err q → o ≡ Err q
unfolding pair_of
pair_not (Ok p) r q e v = never_ok (sym v ∙ e)
pair_not (Err p) r q e v = ap Err (same_refused (sym e ∙ v))

module _ (l : List ℕ) (y : Layout) (r : Outcome Pair) (a : List Float) (held : List ℕ) (b : List Float) (counts : List ℕ) (T : TookBoth (both_of l y) r a held b counts) where
  -- a refusal stays
  pub pair_stop : {A : Type 0} (f : Both → Outcome A) (q : Refusal) → r ≡ Err q → then (both_of l y) f ≡ Err q
  pair_stop f q v = stop (both_of l y) f q (pair_not (both_of l y) r q T.is v)

  -- both cells stand in their rooms
  pub pair_cells : (n : Pair) → r ≡ Ok n → (p : Both) × (both_of l y ≡ Ok p) × Stands p.first n.first a held × Stands p.second n.second b counts
  pair_cells n v =
      let p = pair_fine (both_of l y) r n T.is v in
      (p.0, p.1, subst (λ k. Stands p.0.first k a held) (sym p.2) (T.first p.0 p.1), subst (λ k. Stands p.0.second k b counts) (sym p.3) (T.second p.0 p.1))

  -- and the next step takes them from there
  pub pair_go : {A : Type 0} (f : Cell → Cell → Outcome A) (n : Pair) → r ≡ Ok n →
      f (cell_at a 0 (counts_at held 0 n.first)) (cell_at b 0 (counts_at counts 0 n.second)) ≡ then (both_of l y) (λ p. f p.first p.second)
  pair_go f n v = let p = pair_cells n v in ap₂ f p.2.is p.3.is ∙ sym (go (both_of l y) (λ p. f p.first p.second) p.0 p.1)
