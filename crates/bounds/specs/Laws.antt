-- Laws of corners against planes: what a fine verdict says, and one turn of each loop in the words of the code.
use Rattle.refusal.specs.Outcome.{Outcome}
use Rattle.std.specs.Prelude.{◌≡◌, refl, Bool, true, false, List, [], ◌∷◌, ℕ, ◌+◌, ◌*◌, ◌≤◌, ◌<◌, length, drop, get_or, Float, Ok, Err}
use Rattle.std.proofs.Math.Path.{sym, ap}
use Rattle.std.proofs.Common.{◌∙◌, arith}
use Rattle.refusal.specs.declared.Refusal.{Refusal}
use Rattle.refusal.specs.Laws.{never_fine}
use Rattle.space.specs.declared.Point3.{Point3}
use Rattle.space.specs.declared.Precision.{Precision}
use Rattle.space.specs.Shapes.{Face, Cell}
use Rattle.side.specs.declared.Side.{Side}
use Rattle.side.specs.declared.Side.TheVariants as S
use Rattle.side.specs.Sides.{side_of}
use Rattle.polygon.specs.Memory.{point_at, points_at}
use Rattle.polygon.specs.Members.{All}
use Rattle.room.specs.Rooms.{face_at, cell_at, counts_at}
use Rattle.room.specs.Laws.{next_point, points_done, all_map}
use Rattle.cell.specs.Laws.{Ahead, ahead_next, ahead_inside, ahead_face, ahead_done}
use Rattle.solids.specs.Apart.{each_in}
use Rattle.solids.specs.Laws.{each_go, each_stop, first_fine}
use Rattle.bounds.specs.Bounds.{not_above, well_below, judged, point_in, points_in, against, Lies}

-- ---- what a fine verdict says

each_fine : {A : Type 0} (f : A → Outcome Unit) (l : List A) → each_in f l ≡ Ok tt → All (λ x. f x ≡ Ok tt) l
unfolding each_in All
each_fine f [] e = tt
each_fine f (x ∷ l) e = let p = first_fine (f x) (each_in f l) e in (p.0, each_fine f l p.1)

against_fine : (strict : Bool) (t : Precision) (bounds c : Cell) → against strict t bounds c ≡ Ok tt →
    All (λ f. All (λ q. All (λ b. judged strict (side_of t b.plane q) ≡ Ok tt) bounds) f.points) c
unfolding against points_in point_in
against_fine strict t bounds c e =
    all_map _ _ c (λ f h. all_map _ _ f.points (λ q g. each_fine _ bounds g) (each_fine _ f.points h)) (each_fine _ c e)

not_positive : (s : Outcome Side) → not_above s ≡ Ok tt → s ≡ Ok S.Positive → ⊥
unfolding not_above
not_positive s e p = never_fine (ap not_above (sym p) ∙ e)

is_negative : (s : Outcome Side) → well_below s ≡ Ok tt → s ≡ Ok S.Negative
unfolding well_below
is_negative (Ok S.Positive) e = never_fine e
is_negative (Ok S.Negative) e = refl
is_negative (Ok S.Zero) e = never_fine e
is_negative (Err r) e = never_fine e

-- where no plane is crossed, no corner is certified Positive against one
pub against_not_positive : (t : Precision) (bounds c : Cell) → against false t bounds c ≡ Ok tt →
    All (λ f. All (λ q. All (λ b. side_of t b.plane q ≡ Ok S.Positive → ⊥) bounds) f.points) c
unfolding judged
against_not_positive t bounds c e =
    all_map _ _ c (λ f. all_map _ _ f.points (λ q. all_map _ _ bounds (λ b. not_positive (side_of t b.plane q)))) (against_fine false t bounds c e)

-- and inside strictly, each corner is certified Negative against each
pub against_negative : (t : Precision) (bounds c : Cell) → against true t bounds c ≡ Ok tt →
    All (λ f. All (λ q. All (λ b. side_of t b.plane q ≡ Ok S.Negative) bounds) f.points) c
unfolding judged
against_negative t bounds c e =
    all_map _ _ c (λ f. all_map _ _ f.points (λ q. all_map _ _ bounds (λ b. is_negative (side_of t b.plane q)))) (against_fine true t bounds c e)

-- ---- a loop over the faces of a cell in a room: i are fine

pub record Testing (g : Face → Outcome Unit) (src : List Float) (from : ℕ) (ns : List ℕ) (j faces o i : ℕ) : Type 0 where
  pub ahead : Ahead src ns j faces o i
  pub rest : each_in g (cell_at src o (drop i (counts_at ns j faces))) ≡ each_in g (cell_at src from (counts_at ns j faces))

pub testing_start : (g : Face → Outcome Unit) (src : List Float) (from : ℕ) (ns : List ℕ) (j faces : ℕ) → Lies src from ns j faces → Testing g src from ns j faces from 0
testing_start g src from ns j faces h = record { ahead = record { upto = omega arith; within = h.within }; rest = refl }

module _ {g : Face → Outcome Unit} {src : List Float} {from : ℕ} {ns : List ℕ} {j faces o i : ℕ} (I : Testing g src from ns j faces o i) (given : Lies src from ns j faces) where
  pub testing_inside : i < faces → o + 13 + 3 * get_or ns (j + i) 0 ≤ length src
  testing_inside h = ahead_inside src ns j faces o i given.listed h I.ahead

  turn : i < faces → each_in g (face_at src o (get_or ns (j + i) 0) ∷ cell_at src (o + 13 + 3 * get_or ns (j + i) 0) (drop (i + 1) (counts_at ns j faces))) ≡ each_in g (cell_at src from (counts_at ns j faces))
  turn h = ap (each_in g) (sym (ahead_face src ns j faces o i given.listed h I.ahead)) ∙ I.rest

  pub testing_go : i < faces → g (face_at src o (get_or ns (j + i) 0)) ≡ Ok tt → Testing g src from ns j faces (o + 13 + 3 * get_or ns (j + i) 0) (i + 1)
  testing_go h e = record { ahead = ahead_next src ns j faces o i given.listed h I.ahead; rest = sym (each_go g _ _ e) ∙ turn h }

  pub testing_stop : (r : Refusal) → i < faces → g (face_at src o (get_or ns (j + i) 0)) ≡ Err r → each_in g (cell_at src from (counts_at ns j faces)) ≡ Err r
  testing_stop r h e = sym (turn h) ∙ each_stop g _ _ r e

  pub testing_end : faces ≤ i → each_in g (cell_at src from (counts_at ns j faces)) ≡ Ok tt
  unfolding each_in
  testing_end h = sym I.rest ∙ ap (each_in g) (ahead_done src ns j faces o i h)

-- ---- a loop over n points in a slice

pub record Passing (g : Point3 → Outcome Unit) (s : List Float) (at n i : ℕ) : Type 0 where
  pub upto : i ≤ n
  pub rest : each_in g (drop i (points_at s at n)) ≡ each_in g (points_at s at n)

module _ {g : Point3 → Outcome Unit} {s : List Float} {at n i : ℕ} (I : Passing g s at n i) where
  onward : i < n → each_in g (point_at s (at + 3 * i) ∷ drop (i + 1) (points_at s at n)) ≡ each_in g (points_at s at n)
  onward h = ap (each_in g) (sym (next_point s at n i h)) ∙ I.rest

  pub passing_go : {q : Point3} → i < n → q ≡ point_at s (at + 3 * i) → g q ≡ Ok tt → Passing g s at n (i + 1)
  passing_go h e v = record { upto = omega arith; rest = sym (each_go g _ _ (ap g (sym e) ∙ v)) ∙ onward h }

  pub passing_stop : {q : Point3} (r : Refusal) → i < n → q ≡ point_at s (at + 3 * i) → g q ≡ Err r → each_in g (points_at s at n) ≡ Err r
  passing_stop r h e v = sym (onward h) ∙ each_stop g _ _ r (ap g (sym e) ∙ v)

  pub passing_end : n ≤ i → each_in g (points_at s at n) ≡ Ok tt
  unfolding each_in
  passing_end h = sym I.rest ∙ ap (each_in g) (points_done s at n i h)
