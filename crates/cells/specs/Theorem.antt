-- What difference and intersection promise, of the definition that the code is proved equal to.
use Rattle.std.proofs.Math.Path.{◌≡◌, refl, sym, ap, subst}
use Rattle.std.proofs.Common.{◌∙◌, arith}
use Rattle.std.specs.Prelude.{false, ℕ, ltb, Ok, Err}
use mathlib.Core.List.{List, [], ◌∷◌, ◌++◌, append_assoc}
use Rattle.refusal.specs.Outcome.{Outcome, then, walk, number_of}
use Rattle.refusal.specs.Laws.{same_ok, then_ok, unless_ok}
use Rattle.space.specs.declared.Plane.{Plane}
use Rattle.space.specs.declared.Precision.{Precision}
use Rattle.space.specs.Shapes.{Face, Cell, Part, nothing, part, corners, all_corners}
use Rattle.side.specs.Sides.{opposite_of, side_of}
use Rattle.polygon.specs.Members.{All}
use Rattle.room.specs.Laws.{all_none, all_snoc}
use Rattle.edge.specs.Meets.{is_positive}
use Rattle.clip.specs.Cuts.{clip}
use Rattle.clip.specs.Theorem.{Corners, cut_below}
use Rattle.stack.specs.Stacks.{add_cell, add_part, add_cut}
use Rattle.cells.specs.Cells.{Carving, carving, carve_on, carve_cell, carve_part, carve, minus, clip_part, clip_face, common}

-- ---- walks

then_step : {S : Type 0} (o : Outcome S) (g h k : S → Outcome S) → ((s : S) → g s ≡ then (h s) k) → then o g ≡ then (then o h) k
then_step (Ok s) g h k e = e s
then_step (Err r) g h k e = refl

walk_append : {S A : Type 0} (f : S → A → Outcome S) (s : S) (a b : List A) → walk f s (a ++ b) ≡ then (walk f s a) (λ x. walk f x b)
unfolding walk
walk_append f s [] b = refl
walk_append f s (x ∷ a) b = then_step (f s x) (λ y. walk f y (a ++ b)) (λ y. walk f y a) (λ y. walk f y b) (λ y. walk_append f y a b)

-- ---- every piece of a difference is cut off by the opposite of a face's plane from what the faces before left

pub record Piece (t : Precision) (room : ℕ) (a b : Cell) (x : Cell) : Type 0 where
  pub before : Cell
  pub face : Face
  pub after : Cell
  pub faces : b ≡ before ++ (face ∷ after)
  pub left : Cell
  pub out : List Cell
  pub remains : walk (carve t room) (record { rest = part a; out = [] }) before ≡ carving (part left) out
  pub back : Plane
  pub opposite : opposite_of t face.plane ≡ Ok back
  pub cut : clip t room back left ≡ Ok (part x)

module _ (t : Precision) (room : ℕ) (a b : Cell) where
  add_pieces : (pre : Cell) (f : Face) (post : Cell) → b ≡ pre ++ (f ∷ post) → (c : Cell) (out out' : List Cell) (o : Plane) → walk (carve t room) (record { rest = part a; out = [] }) pre ≡ carving (part c) out →
      opposite_of t f.plane ≡ Ok o → (p : Part) → clip t room o c ≡ Ok p → add_part room out p ≡ Ok out' → All (Piece t room a b) out → All (Piece t room a b) out'
  unfolding add_part add_cell
  add_pieces pre f post e c out out' o w q nothing k x h = subst (All (Piece t room a b)) (same_ok x) h
  add_pieces pre f post e c out out' o w q (part d) k x h =
      let u = unless_ok (ltb room (all_corners (corners 0 d) out)) 12 _ out' x in
      subst (All (Piece t room a b)) (same_ok u.1)
      (all_snoc (Piece t room a b) out d h (record { before = pre; face = f; after = post; faces = e; left = c; out = out; remains = w; back = o; opposite = q; cut = k }))

  part_pieces : (pre : Cell) (f : Face) (post : Cell) → b ≡ pre ++ (f ∷ post) → (q : Part) (out : List Cell) (s : Carving) → walk (carve t room) (record { rest = part a; out = [] }) pre ≡ carving q out →
      carve_part t room out q f.plane ≡ Ok s → All (Piece t room a b) out → All (Piece t room a b) s.out
  unfolding carve_part carve_cell carve_on add_cut
  part_pieces pre f post e nothing out s w x h = subst (λ y. All (Piece t room a b) y.out) (same_ok x) h
  part_pieces pre f post e (part c) out s w x h =
      let g = then_ok (opposite_of t f.plane) (λ o. carve_on t room o f.plane c out) s x in
      let k = then_ok (add_cut t room g.0 c out) (λ y. then (clip t room f.plane c) (λ r. carving r y)) s g.2 in
      let m = then_ok (clip t room g.0 c) (add_part room out) k.0 k.1 in
      let n = then_ok (clip t room f.plane c) (λ r. carving r k.0) s k.2 in
      subst (λ y. All (Piece t room a b) y.out) (same_ok n.2) (add_pieces pre f post e c out k.0 g.0 w g.1 m.0 m.1 m.2 h)

  walk_pieces : (pre l : Cell) → b ≡ pre ++ l → (s r : Carving) → walk (carve t room) (record { rest = part a; out = [] }) pre ≡ Ok s → walk (carve t room) s l ≡ Ok r →
      All (Piece t room a b) s.out → All (Piece t room a b) r.out
  unfolding walk carve
  walk_pieces pre [] e s r w x h = subst (λ y. All (Piece t room a b) y.out) (same_ok x) h
  walk_pieces pre (f ∷ l) e s r w x h =
      let g = then_ok (carve t room s f) (λ y. walk (carve t room) y l) r x in
      walk_pieces (pre ++ (f ∷ [])) l (e ∙ sym (append_assoc pre (f ∷ []) l)) g.0 r
      (walk_append (carve t room) (record { rest = part a; out = [] }) pre (f ∷ []) ∙ ap (λ o. then o (λ y. walk (carve t room) y (f ∷ []))) w ∙ ap (λ o. then o (λ y. Ok y)) g.1)
      g.2 (part_pieces pre f l e s.rest s.out g.0 w g.1 h)

  pub difference_pieces : (cs : List Cell) → minus t room a b ≡ Ok cs → All (Piece t room a b) cs
  unfolding minus walk
  difference_pieces cs e =
      let g = then_ok (walk (carve t room) (record { rest = part a; out = [] }) b) (λ s. Ok s.out) cs e in
      subst (All (Piece t room a b)) (same_ok g.2) (walk_pieces [] b refl (record { rest = part a; out = [] }) g.0 refl g.1 (all_none _))

-- ---- no corner of the intersection is Positive against the last plane that cut it

abbrev Below : Precision → Plane → Cell → Type 0
Below t w d = Corners (λ q. is_positive (side_of t w q) ≡ false) d

module _ (t : Precision) (room : ℕ) (a : Cell) where
  part_below : (w : Plane) (p q : Part) (cs : List Cell) → clip_part t room w p ≡ Ok q → add_part room [] q ≡ Ok cs → All (Below t w) cs
  unfolding clip_part add_part add_cell All
  part_below w p nothing cs e x = subst (All (Below t w)) (same_ok x) tt
  part_below w nothing (part d) cs e x = absurd (let z : ◌≡◌ {A = ℕ} 0 1 = cc in omega arith)
  part_below w (part c) (part d) cs e x =
      let u = unless_ok (ltb room (all_corners (corners 0 d) [])) 12 _ cs x in
      subst (All (Below t w)) (same_ok u.1) (cut_below t room w c d e, tt)

  pub common_below : (b : Cell) (f : Face) (cs : List Cell) → common t room a (b ++ (f ∷ [])) ≡ Ok cs → All (λ d. Corners (λ q. is_positive (side_of t f.plane q) ≡ false) d) cs
  unfolding common walk clip_face
  common_below b f cs e =
      let g = then_ok (walk (clip_face t room) (part a) (b ++ (f ∷ []))) (add_part room []) cs e in
      let k = then_ok (walk (clip_face t room) (part a) b) (λ x. walk (clip_face t room) x (f ∷ [])) g.0 (sym (walk_append (clip_face t room) (part a) b (f ∷ [])) ∙ g.1) in
      let m = then_ok (clip_face t room k.0 f) (λ y. Ok y) g.0 k.2 in
      part_below f.plane k.0 g.0 cs (m.1 ∙ m.2) g.2

  -- an answer with no cells is an answer: 0
  pub common_none : (b : Cell) → walk (clip_face t room) (part a) b ≡ Ok nothing → (common t room a b ≡ Ok []) × (number_of (common t room a b) ≡ 0)
  unfolding common add_part number_of
  common_none b e =
      let q : common t room a b ≡ Ok [] = ap (λ o. then o (add_part room [])) e in
      (q, ap number_of q)
