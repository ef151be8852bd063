-- Every face of a piece has three corners or more, where every face of both solids has.
use Rattle.std.specs.Prelude.{◌≡◌, refl, ℕ, length, ltb, Ok}
use Rattle.std.proofs.Math.Path.{ap, subst}
use Rattle.std.proofs.Common.{◌∙◌}
use mathlib.Core.List.{List, [], ◌++◌}
use Rattle.refusal.specs.Outcome.{walk}
use Rattle.refusal.specs.Laws.{same_ok, then_ok, unless_ok}
use Rattle.space.specs.declared.Plane.{Plane}
use Rattle.space.specs.declared.Precision.{Precision}
use Rattle.space.specs.Shapes.{Face, Cell, Part, nothing, part, corners, all_corners}
use Rattle.side.specs.Sides.{opposite_of}
use Rattle.polygon.specs.Members.{All}
use Rattle.room.specs.Laws.{all_none, all_snoc, all_map, all_in}
use Rattle.room.specs.Steps.{walk_keeps}
use Rattle.clip.specs.Cuts.{clip}
use Rattle.clip.specs.Clips.{Wide}
use Rattle.clip.specs.Bounds.{part_wide}
use Rattle.stack.specs.Stacks.{add_cell, add_part, add_cut}
use Rattle.carving.specs.Carvings.{Carving, carve_part, carve_cell, carve_on, carve, clip_part, clip_face}
use Rattle.job.specs.declared.Operation.{Operation}
use Rattle.job.specs.declared.Operation.TheVariants.{Intersection, Difference, Union}
use Rattle.cells.specs.Cells.{minus, common, both, cells}
use Rattle.split.specs.Splits.{budget, split_cell}
use Rattle.splits.specs.Planes.{split_on, split_plane, split_all, planes_of}
use Rattle.pieces.specs.Pieces.{pieces_of}

-- what is left of a cell, if anything is
abbrev Left : Part → Type 0
Left p = (c : Cell) → p ≡ part c → Wide c

whole : (a : Cell) → Wide a → Left (part a)
whole a w c q = let u : a ≡ c = cc q in subst Wide u w

-- ---- a cell or a part joins a list

cell_added : (room : ℕ) (cs cs' : List Cell) (c : Cell) → add_cell room cs c ≡ Ok cs' → Wide c → All Wide cs → All Wide cs'
unfolding add_cell
cell_added room cs cs' c e w a = subst (All Wide) (same_ok (unless_ok (ltb room (all_corners (corners 0 c) cs)) 12 _ cs' e).1) (all_snoc Wide cs c a w)

part_added : (room : ℕ) (cs cs' : List Cell) (p : Part) → add_part room cs p ≡ Ok cs' → Left p → All Wide cs → All Wide cs'
unfolding add_part
part_added room cs cs' nothing e l a = subst (All Wide) (same_ok e) a
part_added room cs cs' (part c) e l a = cell_added room cs cs' c e (l c refl) a

module _ (t : Precision) (room : ℕ) where
  cut_added : (w : Plane) (c : Cell) (cs cs' : List Cell) → add_cut t room w c cs ≡ Ok cs' → Wide c → All Wide cs → All Wide cs'
  unfolding add_cut
  cut_added w c cs cs' e a b =
      let g = then_ok (clip t room w c) (add_part room cs) cs' e in
      part_added room cs cs' g.0 g.2 (λ d q. part_wide t room w c d (g.1 ∙ ap Ok q) a) b

  -- ---- the cells of the operation

  carved : (out : List Cell) (r : Part) (p : Plane) (s : Carving) → carve_part t room out r p ≡ Ok s → Left r → All Wide out → Left s.rest × All Wide s.out
  unfolding carve_part carve_cell carve_on
  carved out nothing p s e l a = subst (λ x. Left x.rest × All Wide x.out) (same_ok e) (l, a)
  carved out (part c) p s e l a =
      let o = then_ok (opposite_of t p) _ s e in
      let x = then_ok (add_cut t room o.0 c out) _ s o.2 in
      let y = then_ok (clip t room p c) _ s x.2 in
      subst (λ x. Left x.rest × All Wide x.out) (same_ok y.2) (λ d q. part_wide t room p c d (y.1 ∙ ap Ok q) (l c refl), cut_added o.0 c out x.0 x.1 (l c refl) a)

  carve_wide : (f : Face) (s s' : Carving) → carve t room s f ≡ Ok s' → Left s.rest × All Wide s.out → Left s'.rest × All Wide s'.out
  unfolding carve
  carve_wide f s s' e h = carved s.out s.rest f.plane s' e h.0 h.1

  clip_wide : (f : Face) (p q : Part) → clip_face t room p f ≡ Ok q → Left p → Left q
  unfolding clip_face clip_part
  clip_wide f nothing q e l = subst Left (same_ok e) l
  clip_wide f (part c) q e l = λ d h. part_wide t room f.plane c d (e ∙ ap Ok h) (l c refl)

  minus_wide : (a b : Cell) (cs : List Cell) → minus t room a b ≡ Ok cs → Wide a → All Wide cs
  unfolding minus
  minus_wide a b cs e w =
      let g = then_ok (walk (carve t room) (record { rest = part a; out = [] }) b) _ cs e in
      let k = walk_keeps (λ s. Left s.rest × All Wide s.out) (carve t room) b (all_in _ b (λ f h. carve_wide f)) (record { rest = part a; out = [] }) g.0 g.1 (whole a w, all_none Wide) in
      subst (All Wide) (same_ok g.2) k.1

  cells_wide : (op : Operation) (a b : Cell) (cs : List Cell) → cells op t room a b ≡ Ok cs → Wide a → Wide b → All Wide cs
  unfolding cells common both
  cells_wide Intersection a b cs e x y =
      let g = then_ok (walk (clip_face t room) (part a) b) (add_part room []) cs e in
      part_added room [] cs g.0 g.2 (walk_keeps Left (clip_face t room) b (all_in _ b (λ f h. clip_wide f)) (part a) g.0 g.1 (whole a x)) (all_none Wide)
  cells_wide Difference a b cs e x y = minus_wide a b cs e x
  cells_wide Union a b cs e x y =
      let g = then_ok (minus t room a b) (λ l. add_cell room l b) cs e in
      cell_added room g.0 cs b g.2 y (minus_wide a b g.0 g.1 x)

  -- ---- split by the planes of both

  both_wide : (p o : Plane) (c : Cell) (next cs : List Cell) → split_cell t room p o c next ≡ Ok cs → Wide c → All Wide next → All Wide cs
  unfolding split_cell budget
  both_wide p o c next cs e w a =
      let g = then_ok (add_cut t room p c next) _ cs e in
      let h = then_ok (add_cut t room o c g.0) budget cs g.2 in
      subst (All Wide) (same_ok (unless_ok (ltb 512 (length h.0)) 11 (Ok h.0) cs h.2).1) (cut_added o c g.0 h.0 h.1 w (cut_added p c next g.0 g.1 w a))

  split_wide : (p : Plane) (cs cs' : List Cell) → split_plane t room cs p ≡ Ok cs' → All Wide cs → All Wide cs'
  unfolding split_plane split_on
  split_wide p cs cs' e a =
      let o = then_ok (opposite_of t p) _ cs' e in
      walk_keeps (All Wide) (λ next c. split_cell t room p o.0 c next) cs (all_map Wide _ cs (λ c w s s' q. both_wide p o.0 c s s' q w) a) [] cs' o.2 (all_none Wide)

  pub pieces_wide : (op : Operation) (a b : Cell) (cs : List Cell) → pieces_of op t room a b ≡ Ok cs → Wide a → Wide b → All Wide cs
  unfolding pieces_of split_all
  pieces_wide op a b cs e x y =
      let g = then_ok (cells op t room a b) (split_all t room (planes_of a ++ planes_of b)) cs e in
      walk_keeps (All Wide) (split_plane t room) (planes_of a ++ planes_of b) (all_in _ (planes_of a ++ planes_of b) (λ p h. split_wide p)) g.0 cs g.2 (cells_wide op a b g.0 g.1 x y)
