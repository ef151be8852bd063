-- What holds whenever an offset answers: no moved corner is certified Positive against a moved plane, and each residual lies inside the tube.
use Rattle.std.specs.Prelude.{◌≡◌, refl, true, false, not, List, [], ◌∷◌, ◌++◌, map, ℕ, suc, length, replicate, eqb, Float, Ok, Err}
use Rattle.std.proofs.Common.{sym, ap, ◌∙◌, subst, append_assoc, append-nil, arith, eqb-true}
use Rattle.std.proofs.lemmas.List.{length-map, length-replicate}
use Rattle.std.proofs.lemmas.Bool.{not-false}
use Rattle.float.specs.Float.{finite}
use Rattle.lists.specs.Walks.{all}
use Rattle.refusal.specs.Outcome.{Outcome, then, each, heard}
use Rattle.refusal.specs.Laws.{same_ok, never_ok, then_ok, unless_ok}
use Rattle.refusal.specs.Tests.{or_false}
use Rattle.space.specs.declared.Point3.{Point3}
use Rattle.space.specs.declared.Precision.{Precision}
use Rattle.space.specs.Vector.{sub_v, add_v, cross_v}
use Rattle.space.specs.Shapes.{Cell, Solid}
use Rattle.side.specs.declared.Side.TheVariants as S
use Rattle.side.specs.Sides.{side_of}
use Rattle.polygon.specs.Members.{All}
use Rattle.room.specs.Rooms.{cell_counts}
use Rattle.room.specs.Laws.{length_cell_counts, cell_counts_snoc}
use Rattle.indexed.specs.Indexed.{indexed}
use Rattle.solids.specs.Frames.{point_of}
use Rattle.bounds.specs.Bounds.{against}
use Rattle.bounds.specs.Laws.{against_not_positive}
use Rattle.shift.specs.declared.Push.{Push}
use Rattle.shift.specs.Shifts.{meeting, delta_of, residual, outside, moved_to, flat, moved_by, moved_at, moved_plane}
use Rattle.offset.specs.Offsets.{Moving, moving, pushes, move_points, move_face, not_crossed, move_all, offset_distances, offset_cell}
use Rattle.offset.specs.Indexes.{indexed_counts}

-- ---- one point

-- exactly three faces meet the point p, and its move to q keeps the distance of each within the tube
pub record Inside (t : Precision) (p q : Point3) (l : List Push) : Type 0 where
  pub three : length l ≡ 3
  pub each_in : All (λ n. outside t (residual (sub_v q p) n) ≡ false) l

to_inside : (t : Precision) (a b c : Push) (p n q : Point3) → moved_by t a b c p n ≡ Ok q → Inside t p q (a ∷ b ∷ c ∷ [])
unfolding moved_by moved_to All
to_inside t a b c p n q e =
    let f = unless_ok (flat a n) 25 (moved_to t a b c p (add_v p (delta_of a b c n))) q e in
    let g = unless_ok _ 26 (Ok (add_v p (delta_of a b c n))) q f.1 in
    let r = add_v p (delta_of a b c n) in
    let s : add_v p (delta_of a b c n) ≡ q = same_ok g.1 in
    let x = or_false (outside t (residual (sub_v r p) a)) _ g.0 in
    let y = or_false (outside t (residual (sub_v r p) b)) _ x.1 in
    let move : (h : Push) → outside t (residual (sub_v r p) h) ≡ false → outside t (residual (sub_v q p) h) ≡ false = λ h w. ap (λ z. outside t (residual (sub_v z p) h)) (sym s) ∙ w in
    record { three = refl; each_in = (move a x.0, (move b y.0, (move c y.1, tt))) }

not_three : (t : Precision) (p q : Point3) (l : List Push) → moved_at t p (meeting l) ≡ Ok q → length l ≡ 3
unfolding moved_at meeting
not_three t p q l e = eqb-true (length l) 3 (not-false _ (unless_ok (not (eqb (length l) 3)) 24 _ q e).0)

point_inside : (t : Precision) (p q : Point3) (l : List Push) → moved_at t p (meeting l) ≡ Ok q → Inside t p q l
unfolding moved_at meeting
point_inside t p q [] e = absurd (omega (arith, not_three t p q [] e))
point_inside t p q (a ∷ []) e = absurd (omega (arith, not_three t p q (a ∷ []) e))
point_inside t p q (a ∷ b ∷ []) e = absurd (omega (arith, not_three t p q (a ∷ b ∷ []) e))
point_inside t p q (a ∷ b ∷ c ∷ []) e = to_inside t a b c p (cross_v b.normal c.normal) q (unless_ok (not (eqb 3 3)) 24 (moved_by t a b c p (cross_v b.normal c.normal)) q e).1
point_inside t p q (a ∷ b ∷ c ∷ d ∷ l) e = absurd (omega (arith, not_three t p q (a ∷ b ∷ c ∷ d ∷ l) e))

-- ---- all points, from place x on

unfoldable pub Moves : Precision → List Moving → ℕ → List Point3 → List Point3 → Type 0
Moves t ms x [] [] = Unit
Moves t ms x [] (q ∷ qs) = ⊥
Moves t ms x (p ∷ ps) [] = ⊥
Moves t ms x (p ∷ ps) (q ∷ qs) = Inside t p q (pushes x [] ms) × Moves t ms (suc x) ps qs

points_inside : (t : Precision) (ms : List Moving) (x : ℕ) (before ps qs : List Point3) → move_points t ms x before ps ≡ Ok qs → (rs : List Point3) × (qs ≡ before ++ rs) × Moves t ms x ps rs
unfolding move_points Moves
points_inside t ms x before [] qs e = ([], sym (same_ok e) ∙ sym (append-nil before), tt)
points_inside t ms x before (p ∷ ps) qs e =
    let f = then_ok (moved_at t p (meeting (pushes x [] ms))) (λ q. move_points t ms (suc x) (before ++ (q ∷ [])) ps) qs e in
    let r = points_inside t ms (suc x) (before ++ (f.0 ∷ [])) ps qs f.2 in
    (f.0 ∷ r.0, r.1 ∙ append_assoc before (f.0 ∷ []) r.0, (point_inside t p f.0 (pushes x [] ms) f.1, r.2))

-- ---- the whole

-- the cell's points and places, the moved points, and the cell on the moved planes
pub record Answered (t : Precision) (ds : List Float) (c e : Cell) : Type 0 where
  pub solid : Solid
  pub points : List Point3
  pub is : indexed t c ≡ Ok solid
  pub finite_all : all finite true ds ≡ true
  pub inside : Moves t (moving c solid.faces ds) 0 solid.points points
  pub faces : each (move_face t points) [] (moving c solid.faces ds) ≡ Ok e
  pub under : All (λ f. All (λ q. All (λ b. side_of t b.plane q ≡ Ok S.Positive → ⊥) e) f.points) e

pub heard_ok : {A : Type 0} (v : Outcome Unit) (a b : A) → heard v a ≡ Ok b → (v ≡ Ok tt) × (a ≡ b)
unfolding heard
heard_ok (Ok tt) a b e = (refl, same_ok e)
heard_ok (Err r) a b e = never_ok e

pub offset_answered : (t : Precision) (ds : List Float) (c e : Cell) → offset_distances t ds c ≡ Ok e → Answered t ds c e
unfolding offset_distances move_all not_crossed
offset_answered t ds c e h =
    let f = unless_ok (not (all finite true ds)) 2 _ e h in
    let g = then_ok (indexed t c) (λ s. move_all t (moving c s.faces ds) s.points) e f.1 in
    let ms = moving c g.0.faces ds in
    let p = then_ok (move_points t ms 0 [] g.0.points) (λ qs. then (each (move_face t qs) [] ms) (not_crossed t)) e g.2 in
    let w = then_ok (each (move_face t p.0) [] ms) (not_crossed t) e p.2 in
    let y = heard_ok (against false t w.0 w.0) w.0 e w.2 in
    let m = points_inside t ms 0 [] g.0.points p.0 p.1 in
    record {
      solid = g.0;
      points = p.0;
      is = g.1;
      finite_all = not-false _ f.0;
      inside = subst (Moves t ms 0 g.0.points) (sym m.1) m.2;
      faces = w.1 ∙ ap Ok y.1;
      under = against_not_positive t e e (ap (λ z. against false t z z) (sym y.1) ∙ y.0);
    }

-- ---- each moved face has as many corners

sizes : List Moving → List ℕ
sizes [] = []
sizes (m ∷ ms) = length m.places ∷ sizes ms

moved_sizes : (t : Precision) (qs : List Point3) (ms : List Moving) (before e : Cell) → each (move_face t qs) before ms ≡ Ok e → cell_counts e ≡ cell_counts before ++ sizes ms
unfolding each move_face sizes
moved_sizes t qs [] before e h = ap cell_counts (sym (same_ok h)) ∙ sym (append-nil (cell_counts before))
moved_sizes t qs (m ∷ ms) before e h =
    let f = then_ok (move_face t qs m) (λ y. each (move_face t qs) (before ++ (y ∷ [])) ms) e h in
    let g = then_ok (moved_plane t m.face.plane m.by) (λ w. Ok (record { plane = w; points = map (point_of qs) m.places })) f.0 f.1 in
    let l : length f.0.points ≡ length m.places = ap (λ x. length x.points) (sym (same_ok g.2)) ∙ length-map m.places (point_of qs) in
    moved_sizes t qs ms (before ++ (f.0 ∷ [])) e f.2
    ∙ ap (λ x. x ++ sizes ms) (cell_counts_snoc before f.0)
    ∙ append_assoc (cell_counts before) (length f.0.points ∷ []) (sizes ms)
    ∙ ap (λ x. cell_counts before ++ (x ∷ sizes ms)) l

moving_sizes : (c : Cell) (is : List (List ℕ)) (ds : List Float) → length is ≡ length c → length ds ≡ length c → sizes (moving c is ds) ≡ map length is
unfolding moving sizes
moving_sizes [] [] ds e h = refl
moving_sizes [] (i ∷ is) ds e h = absurd (omega (arith, e))
moving_sizes (f ∷ c) [] ds e h = absurd (omega (arith, e))
moving_sizes (f ∷ c) (i ∷ is) [] e h = absurd (omega (arith, h))
moving_sizes (f ∷ c) (i ∷ is) (d ∷ ds) e h = ap (λ l. length i ∷ l) (moving_sizes c is ds (omega (arith, e)) (omega (arith, h)))

pub offset_counts : (t : Precision) (d : Float) (c e : Cell) → offset_cell t d c ≡ Ok e → cell_counts e ≡ cell_counts c
unfolding offset_cell cell_counts
offset_counts t d c e h =
    let a = offset_answered t (replicate (length c) d) c e h in
    let n = indexed_counts t c a.solid a.is in
    let l : length a.solid.faces ≡ length c = sym (length-map a.solid.faces length) ∙ ap length n ∙ length_cell_counts c in
    moved_sizes t a.points (moving c a.solid.faces (replicate (length c) d)) [] e a.faces ∙ moving_sizes c a.solid.faces (replicate (length c) d) l (length-replicate (length c) d) ∙ n
