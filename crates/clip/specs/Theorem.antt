-- The cut theorem, of the definition that the code is proved equal to.
use Rattle.std.proofs.Math.Path.{◌≡◌, refl, sym, ap, subst}
use Rattle.std.proofs.Common.{◌∙◌, arith}
use Rattle.std.specs.Prelude.{Bool, cond, ◌⊎◌, ◌↔◌, ℕ, Float, length, ltb, leb, Ok, Err}
use Rattle.std.proofs.Math.Bool.{true, false}
use Rattle.std.proofs.Math.Logic.{inl, inr, ⊎_elim}
use mathlib.Core.List.{List, [], ◌∷◌, ◌++◌, append-nil, append_assoc}
use Rattle.refusal.specs.declared.Refusal.{Refusal}
use Rattle.refusal.specs.Outcome.{Outcome, then, unless, walk}
use Rattle.refusal.specs.Laws.{same_ok, then_ok, unless_ok}
use Rattle.lists.specs.Walks.{Pair, pairs_to, cyclic}
use Rattle.space.specs.declared.Point3.{Point3}
use Rattle.space.specs.declared.Plane.{Plane}
use Rattle.space.specs.declared.Precision.{Precision}
use Rattle.space.specs.declared.Closeness.{Closeness}
use Rattle.space.specs.declared.Closeness.TheVariants as N
use Rattle.space.specs.Shapes.{Face, Cell, Part, nothing, part, corners}
use Rattle.side.specs.declared.Side.{Side}
use Rattle.side.specs.declared.Side.TheVariants.{Positive, Negative, Zero}
use Rattle.side.specs.Sides.{side_of}
use Rattle.polygon.specs.Unique.{unique}
use Rattle.hull.specs.Hull.{cap_of}
use Rattle.edge.specs.declared.Meet.{Meet}
use Rattle.edge.specs.declared.Meet.TheVariants as M
use Rattle.edge.specs.Meets.{Signs, unseen, noted, is_positive, is_negative, at_corner, held_back, corner_meet, crosses, no_ratio, between, cut_meet, unless_vague, landed, edge_meet}
use Rattle.edge.specs.Laws.{cut_zero, cut_between}
use Rattle.polygon.specs.Members.{All, unique_all}
use Rattle.hull.proofs.Members.{cap_all}
use Rattle.room.specs.Rooms.{In}
use Rattle.room.specs.Laws.{all_none, all_snoc, all_map, all_both, all_in, all_at}
use Rattle.room.specs.Steps.{walk_keeps, walk_back, walk_runs}
use Rattle.ring.specs.Rings.{sign_one, Ring, push_face, push_cap, push_both, pushed, cut_by, cut_edge, cut_ring}
use Rattle.cell.specs.Cells.{is_full, add_face, keep_face, left_cell}
use Rattle.clip.specs.Cuts.{sign_face, signs_of, Cutting, joined, cut_face, closed, cut_faces, cut_cell, as_part, clip_by, clip}

-- every corner of a cell
abbrev pub Corners : (Point3 → Type 0) → Cell → Type 0
Corners P c = All (λ f. All P f.points) c

-- ---- what the corners and the cap points have in common: P and Z

pub record Holds (P Z : Point3 → Type 0) (s : Ring) : Type 0 where
  pub face : All P s.face
  pub cap : All Z s.cap

module _ (P Z : Point3 → Type 0) where
  face_holds : (s s' : Ring) (q : Point3) → push_face s q ≡ Ok s' → P q → Holds P Z s → Holds P Z s'
  unfolding push_face
  face_holds s s' q e p h =
      let g = unless_ok (leb 128 (length s.face)) 12 _ s' e in
      subst (Holds P Z) (same_ok g.1) (record { face = all_snoc P s.face q h.face p; cap = h.cap })

  cap_holds : (s s' : Ring) (q : Point3) → push_cap s q ≡ Ok s' → Z q → Holds P Z s → Holds P Z s'
  unfolding push_cap
  cap_holds s s' q e z h =
      let g = unless_ok (leb 1024 (length s.cap)) 12 _ s' e in
      subst (Holds P Z) (same_ok g.1) (record { face = h.face; cap = all_snoc Z s.cap q h.cap z })

  both_holds : (s s' : Ring) (q : Point3) → push_both s q ≡ Ok s' → P q → Z q → Holds P Z s → Holds P Z s'
  unfolding push_both
  both_holds s s' q e p z h =
      let g = then_ok (push_face s q) (λ r. push_cap r q) s' e in
      cap_holds g.0 s' q g.2 z (face_holds s g.0 q g.1 p h)

  -- what a meet may add to the face and to the cap
  abbrev Allowed : Point3 → Outcome Meet → Type 0
  Allowed a (Ok M.Keep) = P a
  Allowed a (Ok M.Drop) = Unit {0}
  Allowed a (Ok M.Touch) = P a × Z a
  Allowed a (Ok (M.Cut x y z)) = P (record { x = x; y = y; z = z }) × Z (record { x = x; y = y; z = z })
  Allowed a (Err r) = Unit {0}

  pushed_holds : (s s' : Ring) (a : Point3) (m : Outcome Meet) → Allowed a m → pushed s a m ≡ Ok s' → Holds P Z s → Holds P Z s'
  unfolding pushed
  pushed_holds s s' a (Ok M.Keep) p e h = face_holds s s' a e p h
  pushed_holds s s' a (Ok M.Drop) p e h = subst (Holds P Z) (same_ok e) h
  pushed_holds s s' a (Ok M.Touch) p e h = both_holds s s' a e p.0 p.1 h
  pushed_holds s s' a (Ok (M.Cut x y z)) p e h = both_holds s s' _ e p.0 p.1 h
  pushed_holds s s' a (Err r) p e h = absurd (let n : ◌≡◌ {A = ℕ} 0 1 = cc in omega arith)

  held_allowed : (a : Point3) (s : Outcome Side) (m : Outcome Meet) → Allowed a m → Allowed a (held_back s m)
  unfolding held_back
  held_allowed a (Ok Positive) m h = h
  held_allowed a (Ok Negative) m h = h
  held_allowed a (Ok Zero) m h = h
  held_allowed a (Err r) m h = tt

  at_allowed : (a : Point3) (s : Outcome Side) → (is_positive s ≡ false → P a) → (s ≡ Ok Zero → Z a) → Allowed a (at_corner s)
  unfolding at_corner
  at_allowed a (Ok Positive) p z = tt
  at_allowed a (Ok Negative) p z = p refl
  at_allowed a (Ok Zero) p z = (p refl, z refl)
  at_allowed a (Err r) p z = tt

  landed_allowed : (a : Point3) (s : Outcome Side) (q : Point3) → (s ≡ Ok Zero → P q × Z q) → Allowed a (landed s q)
  unfolding landed
  landed_allowed a (Ok Positive) q h = tt
  landed_allowed a (Ok Negative) q h = tt
  landed_allowed a (Ok Zero) q h = h refl
  landed_allowed a (Err r) q h = tt

  unless_allowed : (a : Point3) (b : Bool) (m : Outcome Meet) → Allowed a m → Allowed a (unless_vague b m)
  unless_allowed a true m h = tt
  unless_allowed a false m h = h

  if_allowed : (a : Point3) (b : Bool) (m : Outcome Meet) → (b ≡ true → Allowed a m) → Allowed a (cond b m (Ok M.Drop))
  if_allowed a true m h = h refl
  if_allowed a false m h = tt

-- the first of each edge is a corner
all_from : (Q : Point3 → Type 0) (o : Point3) (l : List Point3) → All Q l → All (λ e. Q e.from) (pairs_to o l)
unfolding All pairs_to
all_from Q o [] a = tt
all_from Q o (x ∷ l) a = (a.0, all_from Q o l a.1)

all_cyclic : (Q : Point3 → Type 0) (l : List Point3) → All Q l → All (λ e. Q e.from) (cyclic l)
unfolding cyclic
all_cyclic Q [] a = all_none _
all_cyclic Q (x ∷ l) a = all_from Q x (x ∷ l) a

-- ---- a face, and the whole cell

module _ (P Z : Point3 → Type 0) (t : Precision) (w : Plane) where
  -- what a corner and a cut point of an edge may be
  pub record Corner (a : Point3) : Type 0 where
    pub kept : is_positive (side_of t w a) ≡ false → P a
    pub zero : side_of t w a ≡ Ok Zero → Z a

  pub record Edge (e : Pair Point3) : Type 0 where
    pub face : crosses (side_of t w e.from) (side_of t w e.to) ≡ true → side_of t w (between w e.from e.to) ≡ Ok Zero → P (between w e.from e.to)
    pub cap : crosses (side_of t w e.from) (side_of t w e.to) ≡ true → side_of t w (between w e.from e.to) ≡ Ok Zero → Z (between w e.from e.to)

  pub record Fair (f : Face) : Type 0 where
    pub corner : All Corner f.points
    pub edge : All Edge (cyclic f.points)

  edge_holds : (e : Pair Point3) → Corner e.from → Edge e → (s s' : Ring) → cut_edge t w s e ≡ Ok s' → Holds P Z s → Holds P Z s'
  unfolding cut_edge cut_by corner_meet edge_meet cut_meet
  edge_holds e k g s s' q h =
      let a = e.from in
      let b = e.to in
      let sa = side_of t w a in
      let sb = side_of t w b in
      let r = then_ok (pushed s a (corner_meet sa sb)) (λ x. pushed x a (edge_meet t w a b sa sb)) s' q in
      let m : Allowed P Z e.from (corner_meet (side_of t w e.from) (side_of t w e.to)) =
      held_allowed P Z a sa _ (held_allowed P Z a sb _ (at_allowed P Z a sa k.kept k.zero)) in
      let n : Allowed P Z e.from (edge_meet t w e.from e.to (side_of t w e.from) (side_of t w e.to)) =
      if_allowed P Z a (crosses sa sb) (cut_meet t w a b) (λ c. unless_allowed P Z a (no_ratio w a b) (landed (side_of t w (between w a b)) (between w a b)) (landed_allowed P Z a (side_of t w (between w a b)) (between w a b) (λ z. (g.face c z, g.cap c z)))) in
      pushed_holds P Z r.0 s' a _ n r.2 (pushed_holds P Z s r.0 a _ m r.1 h)

  ring_holds : (f : Face) → Fair f → (cap : List Point3) (r : Ring) → cut_ring t w cap f.points ≡ Ok r → All Z cap → Holds P Z r
  unfolding cut_ring
  ring_holds f h cap r e a =
      walk_keeps (Holds P Z) (cut_edge t w) (cyclic f.points) (all_both _ _ _ (cyclic f.points) (λ p k g. edge_holds p k g) (all_cyclic Corner f.points h.corner) h.edge)
      (record { face = []; cap = cap }) r e (record { face = all_none P; cap = a })

  pub record Whole (s : Cutting) : Type 0 where
    pub cell : Corners P s.cell
    pub cap : All Z s.cap

  add_corners : (room : ℕ) (c c' : Cell) (f : Face) → add_face room c f ≡ Ok c' → All P f.points → Corners P c → Corners P c'
  unfolding add_face
  add_corners room c c' f e p a =
      let g = unless_ok (is_full room (length c) (corners 0 c) (length f.points)) 12 _ c' e in
      subst (Corners P) (same_ok g.1) (all_snoc _ c f a p)

  keep_corners : (b : Bool) (room : ℕ) (c c' : Cell) (f : Face) → keep_face b room c f ≡ Ok c' → All P f.points → Corners P c → Corners P c'
  unfolding keep_face
  keep_corners true room c c' f e p a = subst (Corners P) (same_ok e) a
  keep_corners false room c c' f e p a = add_corners room c c' f e p a

  face_whole : (room : ℕ) (f : Face) → Fair f → (s s' : Cutting) → cut_face t room w s f ≡ Ok s' → Whole s → Whole s'
  unfolding cut_face joined
  face_whole room f h s s' e a =
      let r = then_ok (cut_ring t w s.cap f.points) (joined t room s.cell f.plane) s' e in
      let u = then_ok (unique t r.0.face) _ s' r.2 in
      let k = then_ok (keep_face (ltb (length u.0) 3) room s.cell (record { plane = f.plane; points = u.0 })) _ s' u.2 in
      let g = ring_holds f h s.cap r.0 r.1 a.cap in
      subst Whole (same_ok k.2) (record {
        cell = keep_corners _ room s.cell k.0 _ k.1 (unique_all P t r.0.face u.0 g.face u.1) a.cell;
        cap = g.cap;
      })

  -- a cut cell: the kept corners, and the cap behind them
  pub record Closed (d : Cell) : Type 0 where
    pub before : Cell
    pub cap : List Point3
    pub is : d ≡ before ++ (record { plane = w; points = cap } ∷ [])
    pub kept : Corners P before
    pub zero : All Z cap

  pub cut_closed : (room : ℕ) (c d : Cell) → All Fair c → cut_cell t room w c ≡ Ok d → Closed d
  unfolding cut_cell cut_faces closed add_face
  cut_closed room c d h e =
      let r = then_ok (walk (cut_face t room w) (record { cell = []; cap = [] }) c) (closed t room w) d e in
      let g = walk_keeps Whole (cut_face t room w) c (all_map Fair _ c (λ f k. face_whole room f k) h) (record { cell = []; cap = [] }) r.0 r.1 (record { cell = all_none _; cap = all_none Z }) in
      let k = then_ok (cap_of t w r.0.cap) (λ l. add_face room r.0.cell (record { plane = w; points = l })) d r.2 in
      let u = unless_ok (is_full room (length r.0.cell) (corners 0 r.0.cell) (length k.0)) 12 _ d k.2 in
      record { before = r.0.cell; cap = k.0; is = sym (same_ok u.1); kept = g.cell; zero = cap_all Z t w r.0.cap k.0 g.cap k.1 }

-- ---- which sides the corners lie on

abbrev pub is_certain : Outcome Side → Bool
is_certain (Ok Positive) = true
is_certain (Ok Negative) = true
is_certain (Ok Zero) = true
is_certain (Err r) = false

module _ (t : Precision) (w : Plane) (c : Cell) where
  -- every corner classifies; none is Negative; none is Positive
  abbrev pub Classified : Type 0
  Classified = Corners (λ q. is_certain (side_of t w q) ≡ true) c

  abbrev pub NoneNegative : Type 0
  NoneNegative = Corners (λ q. is_negative (side_of t w q) ≡ false) c

  abbrev pub NonePositive : Type 0
  NonePositive = Corners (λ q. is_positive (side_of t w q) ≡ false) c

noted_runs : (s : Signs) (d : Outcome Side) → is_certain d ≡ true → (s' : Signs) × (noted s d ≡ Ok s')
unfolding noted
noted_runs s (Ok Positive) e = (_, refl)
noted_runs s (Ok Negative) e = (_, refl)
noted_runs s (Ok Zero) e = (s, refl)
noted_runs s (Err r) e = absurd (let n : ◌≡◌ {A = ℕ} 0 1 = cc in omega arith)

noted_negative : (s s' : Signs) (d : Outcome Side) → noted s d ≡ Ok s' → s'.negative ≡ false → (s.negative ≡ false) × (is_negative d ≡ false)
unfolding noted
noted_negative s s' (Ok Positive) e n = (ap (λ x. x.negative) (same_ok e) ∙ n, refl)
noted_negative s s' (Ok Negative) e n = absurd (let m : true ≡ false = ap (λ x. x.negative) (same_ok e) ∙ n in let z : ◌≡◌ {A = ℕ} 0 1 = cc in omega arith)
noted_negative s s' (Ok Zero) e n = (ap (λ x. x.negative) (same_ok e) ∙ n, refl)
noted_negative s s' (Err r) e n = absurd (let z : ◌≡◌ {A = ℕ} 0 1 = cc in omega arith)

noted_positive : (s s' : Signs) (d : Outcome Side) → noted s d ≡ Ok s' → s'.positive ≡ false → (s.positive ≡ false) × (is_positive d ≡ false)
unfolding noted
noted_positive s s' (Ok Positive) e n = absurd (let m : true ≡ false = ap (λ x. x.positive) (same_ok e) ∙ n in let z : ◌≡◌ {A = ℕ} 0 1 = cc in omega arith)
noted_positive s s' (Ok Negative) e n = (ap (λ x. x.positive) (same_ok e) ∙ n, refl)
noted_positive s s' (Ok Zero) e n = (ap (λ x. x.positive) (same_ok e) ∙ n, refl)
noted_positive s s' (Err r) e n = absurd (let z : ◌≡◌ {A = ℕ} 0 1 = cc in omega arith)

noted_not : (s s' : Signs) (d : Outcome Side) → is_negative d ≡ false → noted s d ≡ Ok s' → s.negative ≡ false → s'.negative ≡ false
unfolding noted
noted_not s s' (Ok Positive) h e n = ap (λ x. x.negative) (sym (same_ok e)) ∙ n
noted_not s s' (Ok Negative) h e n = absurd (let z : ◌≡◌ {A = ℕ} 0 1 = cc in omega arith)
noted_not s s' (Ok Zero) h e n = ap (λ x. x.negative) (sym (same_ok e)) ∙ n
noted_not s s' (Err r) h e n = absurd (let z : ◌≡◌ {A = ℕ} 0 1 = cc in omega arith)

module _ (t : Precision) (w : Plane) (c : Cell) where
  signs_run : Classified t w c → (s : Signs) × (signs_of t w c ≡ Ok s)
  unfolding signs_of sign_face sign_one
  signs_run h =
      walk_runs (sign_face t w) c
      (all_map _ _ c (λ f g s. walk_runs (sign_one t w) f.points (all_map _ _ f.points (λ q k r. noted_runs r (side_of t w q) k) g) s) h)
      unseen

  signs_negative : (s : Signs) → signs_of t w c ≡ Ok s → s.negative ≡ false → NoneNegative t w c
  unfolding signs_of sign_face sign_one
  signs_negative s e n =
      (walk_back (λ x. x.negative ≡ false) _ (sign_face t w)
      (λ a b f g j. walk_back (λ x. x.negative ≡ false) (λ q. is_negative (side_of t w q) ≡ false) (sign_one t w) (λ x y q k i. noted_negative x y (side_of t w q) k i) f.points a b g j)
      c unseen s e n).1

  signs_positive : (s : Signs) → signs_of t w c ≡ Ok s → s.positive ≡ false → NonePositive t w c
  unfolding signs_of sign_face sign_one
  signs_positive s e n =
      (walk_back (λ x. x.positive ≡ false) _ (sign_face t w)
      (λ a b f g j. walk_back (λ x. x.positive ≡ false) (λ q. is_positive (side_of t w q) ≡ false) (sign_one t w) (λ x y q k i. noted_positive x y (side_of t w q) k i) f.points a b g j)
      c unseen s e n).1

  signs_none : (s : Signs) → signs_of t w c ≡ Ok s → NoneNegative t w c → s.negative ≡ false
  unfolding signs_of sign_face sign_one
  signs_none s e h =
      walk_keeps (λ x. x.negative ≡ false) (sign_face t w) c
      (all_map _ _ c (λ f g a b k j. walk_keeps (λ x. x.negative ≡ false) (sign_one t w) f.points (all_map _ _ f.points (λ q n x y i m. noted_not x y (side_of t w q) n i m) g) a b k j) h)
      unseen s e refl

-- ---- the cut theorem

-- a cell that is left whole is itself
left_from : (room : ℕ) (acc c d : Cell) → walk (add_face room) acc c ≡ Ok d → d ≡ acc ++ c
unfolding walk add_face
left_from room acc [] d e = sym (same_ok e) ∙ sym (append-nil acc)
left_from room acc (f ∷ c) d e =
    let g = then_ok (add_face room acc f) (λ x. walk (add_face room) x c) d e in
    let u = unless_ok (is_full room (length acc) (corners 0 acc) (length f.points)) 12 _ g.0 g.1 in
    left_from room g.0 c d g.2 ∙ ap (λ x. x ++ c) (sym (same_ok u.1)) ∙ append_assoc acc (f ∷ []) c

part_same : (c d : Cell) → as_part c ≡ Ok (part d) → c ≡ d
part_same c d e = cc

no_part : (c : Cell) → as_part c ≡ Ok nothing → ⊥
no_part c e = let n : ◌≡◌ {A = ℕ} 0 1 = cc in omega arith

module _ (t : Precision) (room : ℕ) (w : Plane) (c : Cell) where
  by_nothing : (n p : Bool) → clip_by t room w c n p ≡ Ok nothing → n ≡ false
  unfolding clip_by
  by_nothing false p e = refl
  by_nothing true false e = let g = then_ok (left_cell room c) as_part nothing e in absurd (no_part g.0 g.2)
  by_nothing true true e = let g = then_ok (cut_cell t room w c) as_part nothing e in absurd (no_part g.0 g.2)

  by_part : (n p : Bool) (d : Cell) → clip_by t room w c n p ≡ Ok (part d) → ((p ≡ false) × (d ≡ c)) ⊎ (cut_cell t room w c ≡ Ok d)
  unfolding clip_by left_cell
  by_part false p d e = absurd (let z : ◌≡◌ {A = ℕ} 0 1 = cc in omega arith)
  by_part true false d e =
      let g = then_ok (left_cell room c) as_part (part d) e in
      inl (refl, sym (part_same g.0 d g.2) ∙ left_from room [] c g.0 g.1)
  by_part true true d e =
      let g = then_ok (cut_cell t room w c) as_part (part d) e in
      inr (g.1 ∙ ap Ok (part_same g.0 d g.2))

  -- "When every corner classifies, a cut gives nothing exactly when none is Negative"
  pub cut_nothing : Classified t w c → (clip t room w c ≡ Ok nothing) ↔ NoneNegative t w c
  unfolding clip clip_by
  cut_nothing h = (
    (λ e.
        let g = then_ok (signs_of t w c) (λ s. clip_by t room w c s.negative s.positive) nothing e in
        signs_negative t w c g.0 g.1 (by_nothing g.0.negative g.0.positive g.2)),
    (λ a.
        let g = signs_run t w c h in
        ap (λ o. then o (λ s. clip_by t room w c s.negative s.positive)) g.1
        ∙ ap (λ n. clip_by t room w c n g.0.positive) (signs_none t w c g.0 g.1 a)),
  )

  pub part_of : (d : Cell) → clip t room w c ≡ Ok (part d) → (NonePositive t w c × (d ≡ c)) ⊎ (cut_cell t room w c ≡ Ok d)
  unfolding clip
  part_of d e =
      let g = then_ok (signs_of t w c) (λ s. clip_by t room w c s.negative s.positive) (part d) e in
      ⊎_elim (λ h. inl (signs_positive t w c g.0 g.1 h.0, h.1)) inr (by_part g.0.negative g.0.positive d g.2)

  -- where a corner of a cut cell comes from
  pub record Old (q : Point3) : Type 0 where
    pub face : Face
    pub of_cell : In face c
    pub corner : In q face.points

  pub record New (q : Point3) : Type 0 where
    pub face : Face
    pub of_cell : In face c
    pub edge : Pair Point3
    pub of_face : In edge (cyclic face.points)
    pub crossing : crosses (side_of t w edge.from) (side_of t w edge.to) ≡ true
    pub is : q ≡ between w edge.from edge.to

  module _ (d : Cell) (e : clip t room w c ≡ Ok (part d)) where
    fair_sides : All (Fair (λ q. is_positive (side_of t w q) ≡ false) (λ q. side_of t w q ≡ Ok Zero) t w) c
    fair_sides =
        all_in _ c (λ f h. record {
          corner = all_in _ f.points (λ q g. record { kept = λ k. k; zero = λ z. z });
          edge = all_in _ (cyclic f.points) (λ p g. record { face = λ k z. ap is_positive z; cap = λ k z. z });
        })

    zero_below : (q : Point3) → side_of t w q ≡ Ok Zero → is_positive (side_of t w q) ≡ false
    zero_below q z = ap is_positive z

    -- "no corner it gives is Positive"
    pub cut_below : Corners (λ q. is_positive (side_of t w q) ≡ false) d
    cut_below =
        ⊎_elim
        (λ h. subst (NonePositive t w) (sym h.1) h.0)
        (λ h.
        let k = cut_closed (λ q. is_positive (side_of t w q) ≡ false) (λ q. side_of t w q ≡ Ok Zero) t w room c d fair_sides h in
        subst (NonePositive t w) (sym k.is) (all_snoc _ k.before _ k.kept (all_map _ _ k.cap zero_below k.zero)))
        (part_of d e)

    -- "each cap corner is Zero": the cell is left whole, or its last face is a cap
    pub cut_cap : (NonePositive t w c × (d ≡ c)) ⊎ Closed (λ q. is_positive (side_of t w q) ≡ false) (λ q. side_of t w q ≡ Ok Zero) t w d
    cut_cap =
        ⊎_elim inl (λ h. inr (cut_closed (λ q. is_positive (side_of t w q) ≡ false) (λ q. side_of t w q ≡ Ok Zero) t w room c d fair_sides h)) (part_of d e)

    -- a corner that it gives is one of the cell's, or a cut point of one of its edges
    pub cut_from : Corners (λ q. Old q ⊎ New q) d
    cut_from =
        ⊎_elim
        (λ h. subst (Corners (λ q. Old q ⊎ New q)) (sym h.1) (all_in _ c (λ f i. all_in _ f.points (λ q j. inl (record { face = f; of_cell = i; corner = j })))))
        (λ h.
        let g : All (Fair (λ q. Old q ⊎ New q) (λ q. Old q ⊎ New q) t w) c =
        all_in _ c (λ f i. record {
          corner = all_in _ f.points (λ q j. record { kept = λ k. inl (record { face = f; of_cell = i; corner = j }); zero = λ z. inl (record { face = f; of_cell = i; corner = j }) });
          edge = all_in _ (cyclic f.points) (λ p j. record {
            face = λ k z. inr (record { face = f; of_cell = i; edge = p; of_face = j; crossing = k; is = refl });
            cap = λ k z. inr (record { face = f; of_cell = i; edge = p; of_face = j; crossing = k; is = refl });
          });
        }) in
        let k = cut_closed (λ q. Old q ⊎ New q) (λ q. Old q ⊎ New q) t w room c d g h in
        subst (Corners (λ q. Old q ⊎ New q)) (sym k.is) (all_snoc _ k.before _ k.kept k.zero))
        (part_of d e)
