-- Numbers that are read from bytes are values of the format: of a job, or of one solid, that is read, whose tolerances are fair and that passes the check, what the tube says has no hypothesis.
-- Assumes nothing.
use Rattle.std.specs.Prelude.{◌≡◌, true, not, List, ◌++◌, ℕ, length, eqb, Ok}
use Rattle.std.proofs.Common.{ap, ◌∙◌, subst}
use Rattle.refusal.specs.Outcome.{Outcome, then}
use Rattle.refusal.specs.Laws.{same_ok, then_ok, unless_ok}
use Rattle.space.specs.Shapes.{Cell}
use Rattle.space.specs.Vector.{fair_precision}
use Rattle.polygon.specs.Members.{All, all_append}
use Rattle.job.specs.declared.Layout.{Layout}
use Rattle.job.specs.declared.CellLayout.{CellLayout}
use Rattle.job.specs.Records.{span_of}
use Rattle.job.specs.Bytes.{Job, Single}
use Rattle.job.specs.Read.{precision_at, headed, operation_at, layout_with, layout_as, layout_on, layout_after, layout_of, cell_end, cell_layout, job_at, read_job, cell_at, read_cell}
use Rattle.solid_check.specs.Check.{check}
use Rattle.tube.specs.Tube.{Held3}
use Rattle.tube_domain.specs.Checked.{Certain, Drawn}
use Rattle.tube_domain.proofs.Points.{checked_points}
use Rattle.tube_domain.proofs.Checked.{checked_faces, certain_all, checked_tube}
use Rattle.tube_domain.specs.Read.{solid_held, fair_at}

-- ---- a job
taken : (x y : Layout) → ◌≡◌ {A = Outcome Layout} (Ok x) (Ok y) → x.precision ≡ y.precision
taken x y e = ap (λ (z : Layout). z.precision) (same_ok e)

layout_precision : (l : List ℕ) (y : Layout) → layout_of l ≡ Ok y → precision_at l 1 ≡ y.precision
unfolding layout_of layout_after layout_on layout_as
layout_precision l y e =
    let a = unless_ok (not (headed l)) 1 (then (span_of l 17) (layout_after l)) y e in
    let b = then_ok (span_of l 17) (layout_after l) y a.1 in
    let c = then_ok (span_of l b.0.end) (layout_on l b.0) y b.2 in
    let d = then_ok (operation_at l c.0.end) (layout_with l b.0 c.0) y c.2 in
    taken (layout_as l b.0 c.0 d.0) y d.2

-- each plane of both cells, and each point of both solids
pub job_tube : (l : List ℕ) (j : Job) (a b : Cell) → read_job l ≡ Ok j → fair_precision j.precision ≡ true → check true j.precision j.first ≡ Ok a → check true j.precision j.second ≡ Ok b →
    All (λ f. All (Certain j.precision f.plane) (j.first.points ++ j.second.points)) (a ++ b)
unfolding read_job job_at
job_tube l j a b e f g h =
    let r = then_ok (layout_of l) (λ y. Ok (job_at l y)) j e in
    let F = fair_at l 1 j.precision (layout_precision l r.0 r.1 ∙ ap (λ (z : Job). z.precision) (same_ok r.2)) f in
    let p = subst (λ (z : Job). All Held3 z.first.points) (same_ok r.2) (solid_held l r.0.first) in
    let q = subst (λ (z : Job). All Held3 z.second.points) (same_ok r.2) (solid_held l r.0.second) in
    certain_all F (a ++ b) (all_append (Drawn 20) a b (checked_faces F true j.first a p g) (checked_faces F true j.second b q h)) (j.first.points ++ j.second.points)
    (all_append _ j.first.points j.second.points (checked_points F true j.first a p g) (checked_points F true j.second b q h))

-- ---- one solid alone
cell_precision : (l : List ℕ) (y : CellLayout) → cell_layout l ≡ Ok y → precision_at l 1 ≡ y.precision
unfolding cell_layout cell_end
cell_precision l y e =
    let a = unless_ok (not (headed l)) 1 (then (span_of l 17) (cell_end l)) y e in
    let b = then_ok (span_of l 17) (cell_end l) y a.1 in
    let c = unless_ok (not (eqb (length l) b.0.end)) 1 (Ok (record { precision = precision_at l 1; solid = b.0 })) y b.2 in
    ap (λ (z : CellLayout). z.precision) (same_ok {a = record { precision = precision_at l 1; solid = b.0 }} c.1)

pub cell_tube : (l : List ℕ) (j : Single) (c : Cell) → read_cell l ≡ Ok j → fair_precision j.precision ≡ true → check true j.precision j.solid ≡ Ok c → All (λ f. All (Certain j.precision f.plane) j.solid.points) c
unfolding read_cell cell_at
cell_tube l j c e f g =
    let r = then_ok (cell_layout l) (λ y. Ok (cell_at l y)) j e in
    let F = fair_at l 1 j.precision (cell_precision l r.0 r.1 ∙ ap (λ (z : Single). z.precision) (same_ok r.2)) f in
    checked_tube F true j.solid c (subst (λ (z : Single). All Held3 z.solid.points) (same_ok r.2) (solid_held l r.0.solid)) g
