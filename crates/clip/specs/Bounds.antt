-- What bounds the memory of a cut: a part has 1 to 128 faces and no more corners than the room, every face of it has three corners
-- or more where every face of the cell has, and nothing before the places is touched.
use Rattle.std.proofs.Math.Path.{◌≡◌, refl, subst}
use Rattle.std.proofs.Common.{sym, ap, ◌∙◌, arith, ltb-false}
use Rattle.std.specs.Prelude.{Bool, ℕ, suc, ◌≤◌, take, set, ltb, Float, Ok}
use Rattle.std.proofs.Math.Bool.{true, false}
use Rattle.std.proofs.Math.Logic.{⊎_elim}
use mathlib.Core.List.{List, [], ◌∷◌}
use Rattle.std.proofs.Math.ListN.{length, length-append}
use Rattle.std.proofs.lemmas.List.Edits.{sets}
use Rattle.std.proofs.lemmas.List.{take-set-le}
use Rattle.refusal.specs.Outcome.{Outcome, walk}
use Rattle.refusal.specs.Laws.{same_ok, then_ok, unless_ok}
use Rattle.space.specs.declared.Plane.{Plane}
use Rattle.space.specs.declared.Precision.{Precision}
use Rattle.space.specs.Shapes.{Face, Cell, Part, nothing, part, corners}
use Rattle.polygon.specs.Unique.{unique}
use Rattle.hull.specs.Hull.{cap_of}
use Rattle.hull.proofs.Laws.{cap_hull}
use Rattle.hull.proofs.Members.{hull_least}
use Rattle.ring.specs.Rings.{cut_ring}
use Rattle.room.specs.Rooms.{cell_floats, cell_counts}
use Rattle.room.specs.Laws.{corners_none, corners_snoc, all_none, all_snoc, all_in}
use Rattle.room.specs.Steps.{walk_keeps}
use Rattle.cell.specs.Cells.{is_full, add_face, keep_face, left_cell}
use Rattle.cell.specs.Laws.{not_full}
use Rattle.clip.specs.Cuts.{signs_of, Cutting, joined, cut_face, closed, cut_faces, cut_cell, as_part, clip_by, clip}
use Rattle.clip.specs.Clips.{Clipped, Wide, Clips}
use Rattle.clip.specs.Theorem.{part_of}

add_wide : (room : ℕ) (c c' : Cell) (f : Face) → add_face room c f ≡ Ok c' → 3 ≤ length f.points → Wide c → Wide c'
unfolding add_face
add_wide room c c' f e p a =
    let g = unless_ok (is_full room (length c) (corners 0 c) (length f.points)) 12 _ c' e in
    subst Wide (same_ok g.1) (all_snoc _ c f a p)

keep_wide : (b : Bool) (room : ℕ) (c c' : Cell) (f : Face) → ltb (length f.points) 3 ≡ b → keep_face b room c f ≡ Ok c' → Wide c → Wide c'
unfolding keep_face
keep_wide true room c c' f h e a = subst Wide (same_ok e) a
keep_wide false room c c' f h e a = add_wide room c c' f e (ltb-false (length f.points) 3 h) a

module _ (t : Precision) (room : ℕ) (w : Plane) where
  face_wide : (f : Face) (s s' : Cutting) → cut_face t room w s f ≡ Ok s' → Wide s.cell → Wide s'.cell
  unfolding cut_face joined
  face_wide f s s' e a =
      let r = then_ok (cut_ring t w s.cap f.points) (joined t room s.cell f.plane) s' e in
      let u = then_ok (unique t r.0.face) _ s' r.2 in
      let k = then_ok (keep_face (ltb (length u.0) 3) room s.cell (record { plane = f.plane; points = u.0 })) _ s' u.2 in
      subst (λ x. Wide x.cell) (same_ok k.2) (keep_wide _ room s.cell k.0 (record { plane = f.plane; points = u.0 }) refl k.1 a)

  cut_wide : (c d : Cell) → cut_cell t room w c ≡ Ok d → Wide d × (1 ≤ length d)
  unfolding cut_cell cut_faces closed add_face
  cut_wide c d e =
      let r = then_ok (walk (cut_face t room w) (record { cell = []; cap = [] }) c) (closed t room w) d e in
      let g = walk_keeps (λ s. Wide s.cell) (cut_face t room w) c (all_in _ c (λ f h. face_wide f)) (record { cell = []; cap = [] }) r.0 r.1 (all_none _) in
      let k = then_ok (cap_of t w r.0.cap) (λ l. add_face room r.0.cell (record { plane = w; points = l })) d r.2 in
      let u = unless_ok (is_full room (length r.0.cell) (corners 0 r.0.cell) (length k.0)) 12 _ d k.2 in
      let m = length-append r.0.cell (record { plane = w; points = k.0 } ∷ []) in (
        add_wide room r.0.cell d (record { plane = w; points = k.0 }) k.2 (hull_least t w r.0.cap k.0 (cap_hull t w r.0.cap k.0 k.1)) g,
        subst (λ x. 1 ≤ length x) (same_ok u.1) (omega (arith, m)),
      )

  -- every face of a part has three corners or more, where every face of the cell has
  pub part_wide : (c d : Cell) → clip t room w c ≡ Ok (part d) → Wide c → Wide d
  part_wide c d e a =
      ⊎_elim (λ h. subst Wide (sym h.1) a) (λ h. (cut_wide c d h).0) (part_of t room w c d e)

  -- a part has a face
  pub part_some : (c d : Cell) → clip t room w c ≡ Ok (part d) → 1 ≤ length d
  unfolding clip clip_by signs_of walk
  part_some [] d e = absurd (let n : ◌≡◌ {A = ℕ} 0 1 = cc in omega arith)
  part_some (f ∷ c) d e =
      ⊎_elim (λ h. subst (λ x. 1 ≤ length x) (sym h.1) (omega arith)) (λ h. (cut_wide (f ∷ c) d h).1) (part_of t room w (f ∷ c) d e)

-- ---- a part fits

pub record Fit (room : ℕ) (c : Cell) : Type 0 where
  pub few : length c ≤ 128
  pub fit : corners 0 c ≤ room

add_fit : (room : ℕ) (c c' : Cell) (f : Face) → add_face room c f ≡ Ok c' → Fit room c'
unfolding add_face
add_fit room c c' f e =
    let g = unless_ok (is_full room (length c) (corners 0 c) (length f.points)) 12 _ c' e in
    let n = not_full room (length c) (corners 0 c) (length f.points) g.0 in
    subst (Fit room) (same_ok g.1) (record { few = omega (arith, n.0, length-append c (f ∷ [])); fit = omega (arith, n.1, corners_snoc c f) })

none_fit : (room : ℕ) → Fit room []
none_fit room = record { few = omega arith; fit = omega (arith, corners_none) }

module _ (t : Precision) (room : ℕ) (w : Plane) where
  by_fit : (c d : Cell) (n p : Bool) → clip_by t room w c n p ≡ Ok (part d) → Fit room d
  unfolding clip_by left_cell cut_cell closed
  by_fit c d false p e = absurd (let z : ◌≡◌ {A = ℕ} 0 1 = cc in omega arith)
  by_fit c d true false e =
      let g = then_ok (walk (add_face room) [] c) as_part (part d) e in
      let k = walk_keeps (Fit room) (add_face room) c (all_in _ c (λ f h x y q a. add_fit room x y f q)) [] g.0 g.1 (none_fit room) in
      let q : g.0 ≡ d = cc g.2 in
      subst (Fit room) q k
  by_fit c d true true e =
      let g = then_ok (cut_cell t room w c) as_part (part d) e in
      let r = then_ok (cut_faces t room w c) (closed t room w) g.0 g.1 in
      let k = then_ok (cap_of t w r.0.cap) (λ l. add_face room r.0.cell (record { plane = w; points = l })) g.0 r.2 in
      let q : g.0 ≡ d = cc g.2 in
      subst (Fit room) q (add_fit room r.0.cell g.0 (record { plane = w; points = k.0 }) k.2)

  -- a part has 128 faces at most, and no more corners than the room
  pub part_fit : (c d : Cell) → clip t room w c ≡ Ok (part d) → Fit room d
  unfolding clip
  part_fit c d e =
      let g = then_ok (signs_of t w c) (λ s. clip_by t room w c s.negative s.positive) (part d) e in
      by_fit c d g.0.negative g.0.positive g.2

-- ---- what a cut leaves as it was

take_sets {ℓ} : {A : Type ℓ} (vs l : List A) (i j : ℕ) → i ≤ j → take i (sets l j vs) ≡ take i l
take_sets [] l i j h = refl
take_sets (v ∷ vs) l i j h = take_sets vs (set l j v) i (suc j) (omega arith) ∙ take-set-le i l j v h

-- whatever a cut answers, what stands before the places is as it was
pub clip_before : (o : Outcome Part) (r : Outcome Clipped) (d : List Float) (at : ℕ) (n : List ℕ) (k : ℕ) (d' : List Float) (n' : List ℕ) →
    Clips o r d at n k d' n' → (take at d' ≡ take at d) × (take k n' ≡ take k n)
clip_before o r d at n k d' n' c = (
  ap (take at) c.floats ∙ take_sets (cell_floats c.cell) d at at (omega arith),
  ap (take k) c.counts ∙ take_sets (cell_counts c.cell) n k k (omega arith),
)
