-- The call of a hollow is the hollow solid's definition over the check's outcome, with its two shells as bytes; so its theorem speaks of the call.
use Rattle.std.specs.Prelude.{◌≡◌, refl, Bool, true, false, not, List, ℕ, Float, Ok, Err}
use Rattle.std.proofs.Common.{sym, ap, ◌∙◌, subst}
use Rattle.std.specs.Float.Ieee.{neg}
use Rattle.refusal.specs.Outcome.{Outcome, then, unless}
use Rattle.refusal.specs.Laws.{then_ok}
use Rattle.space.specs.declared.Precision.{Precision}
use Rattle.space.specs.Shapes.{Cell}
use Rattle.polygon.specs.Members.{All}
use Rattle.room.specs.Steps.{then_then}
use Rattle.side.specs.declared.Side.TheVariants as S
use Rattle.side.specs.Sides.{side_of}
use Rattle.job.specs.declared.CellLayout.{CellLayout}
use Rattle.job.specs.Read.{solid_at}
use Rattle.offset.specs.Offsets.{offset_cell}
use Rattle.hollow.specs.Hollows.{thick, Hollow, hollow_in, hollow}
use Rattle.solid_check.specs.Check.{check}
use Rattle.hollow_answer.specs.Calls.{built_cell, hollow_answer, answer_of, wall_call, shell_call, hollow_call}
use Rattle.hollow_answer.specs.Theorem.{hollow_inside}
use Rattle.solid_offset.specs.Entries.{hollow_laid}

-- the same next step wherever there is an answer
then_same : {A B : Type 0} (o : Outcome A) (f g : A → Outcome B) → ((a : A) → f a ≡ g a) → then o f ≡ then o g
then_same (Ok a) f g h = h a
then_same (Err r) f g h = refl

unless_then : {A B : Type 0} (b : Bool) (n : ℕ) (o : Outcome A) (f : A → Outcome B) → then (unless b n o) f ≡ unless b n (then o f)
unless_then true n o f = refl
unless_then false n o f = refl

module _ (t : Precision) (room : ℕ) (w : Float) where
  abbrev inside : Cell → Cell → Outcome Hollow
  inside c m = then (built_cell t m) (hollow_in t room c m)

  cell_is : (c : Cell) → then (then (offset_cell t (neg w) c) (inside c)) answer_of ≡ hollow_call t room w c
  unfolding hollow_call shell_call wall_call
  cell_is c = then_then (offset_cell t (neg w) c) (inside c) answer_of ∙ then_same (offset_cell t (neg w) c) (λ m. then (inside c m) answer_of) (shell_call t room c) (λ m. then_then (built_cell t m) (hollow_in t room c m) answer_of)

pub laid_is : (l : List ℕ) (room : ℕ) (w : Float) (y : CellLayout) → hollow_laid l room w y ≡ then (hollow y.precision room w (check true y.precision (solid_at l y.solid)) (built_cell y.precision)) answer_of
unfolding hollow_laid hollow
laid_is l room w y =
    let t = y.precision in
    let o = check true t (solid_at l y.solid) in
    let f : Cell → Outcome Hollow = λ c. then (offset_cell t (neg w) c) (inside t room w c) in
    sym (unless_then (not (thick t w)) 28 (then o f) answer_of ∙ ap (unless (not (thick t w)) 28) (then_then o f answer_of ∙ then_same o (λ c. then (f c) answer_of) (hollow_call t room w) (cell_is t room w)))

-- when the call answers, every corner of the inner shell is certified Negative against every outer plane
pub call_inside : (l : List ℕ) (room : ℕ) (w : Float) (y : CellLayout) (bytes : List ℕ) → hollow_laid l room w y ≡ Ok bytes →
    (h : Hollow) × (◌≡◌ {A = Outcome (List ℕ)} (Ok (hollow_answer h)) (Ok bytes)) × All (λ f. All (λ q. All (λ b. side_of y.precision b.plane q ≡ Ok S.Negative) h.outer) f.points) h.inner
call_inside l room w y bytes e =
    let t = y.precision in
    let o = check true t (solid_at l y.solid) in
    let z = then_ok (hollow t room w o (built_cell t)) answer_of bytes (sym (laid_is l room w y) ∙ e) in
    (z.0, z.2, hollow_inside t room w o z.0 z.1)
