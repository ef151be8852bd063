-- A cut, the cells of a Boolean operation and their pieces: up to 12.
use Rattle.std.specs.Prelude.{Bool, true, false, cond, List, [], ◌∷◌, ◌++◌, reverse, ℕ, length, leb, ltb, Ok, Err}
use Rattle.refusal.specs.Outcome.{Outcome, refuse}
use Rattle.lists.specs.Walks.{cyclic}
use Rattle.space.specs.declared.Point3.{Point3}
use Rattle.space.specs.declared.Precision.{Precision}
use Rattle.space.specs.declared.Plane.{Plane}
use Rattle.space.specs.Shapes.{Face, Cell, Part, nothing, part, corners, all_corners}
use Rattle.side.specs.declared.Side.{Side}
use Rattle.side.specs.declared.Side.TheVariants as D
use Rattle.side.specs.Sides.{side_of}
use Rattle.exact.specs.declared.Turn.{Turn}
use Rattle.exact.specs.declared.Turn.TheVariants as T
use Rattle.hull.specs.Hull.{Flat, turn, chain_one, chain, ringed, chains, hull_on, hull, cap_face, cap_of}
use Rattle.edge.specs.declared.Meet.{Meet}
use Rattle.edge.specs.declared.Meet.TheVariants as M
use Rattle.edge.specs.Meets.{Signs, noted, unseen, at_corner, held_back, corner_meet, crosses, no_ratio, between, landed, unless_vague, cut_meet, edge_meet}
use Rattle.ring.specs.Rings.{sign_one, Ring, push_face, push_cap, push_both, pushed, cut_by, cut_edge, cut_ring}
use Rattle.cell.specs.Cells.{is_full, add_face, keep_face, left_cell}
use Rattle.clip.specs.Cuts.{sign_face, signs_of, joined, cut_face, closed, cut_faces, cut_cell, clip_by, clip}
use Rattle.stack.specs.Stacks.{add_cell, add_part, add_cut}
use Rattle.carving.specs.Carvings.{carve_on, carve_cell, carve_part, carve, clip_part, clip_face}
use Rattle.cells.specs.Cells.{minus, common, both, cells}
use Rattle.split.specs.Splits.{budget, split_cell}
use Rattle.splits.specs.Planes.{split_on, split_plane, split_all, planes_of}
use Rattle.pieces.specs.Pieces.{pieces_of}
use Rattle.job.specs.declared.Operation.{Operation}
use Rattle.job.specs.declared.Operation.TheVariants.{Intersection, Difference, Union}
use Rattle.numbered.specs.Numbered.{among, among_more, Numbered, answer, number, numbered_at, numbered_then, numbered_unless, numbered_walk}
use Rattle.numbered.proofs.Numbered.{numbered_more}
use Rattle.numbered.specs.Points.{opposite_numbered, Sided, side_numbered, unique_numbered}
use Rattle.numbered.specs.Cuts.{Met}

-- ---- the sides of a cell's corners

noted_numbered : (s : Signs) (x : Outcome Side) → Sided x → Numbered 7 (noted s x)
unfolding noted
noted_numbered s (Ok D.Positive) w = answer _
noted_numbered s (Ok D.Negative) w = answer _
noted_numbered s (Ok D.Zero) w = answer s
noted_numbered s (Err r) w = number r w

signs_numbered : (t : Precision) (w : Plane) (c : Cell) → Numbered 7 (signs_of t w c)
unfolding signs_of sign_face sign_one
signs_numbered t w c = numbered_walk (sign_face t w) (λ s f. numbered_walk (sign_one t w) (λ u q. noted_numbered u (side_of t w q) (side_numbered t w q)) s f.points) unseen c

-- ---- an edge against a plane

at_met : (s : Outcome Side) → Sided s → Met (at_corner s)
unfolding at_corner
at_met (Ok D.Positive) w = tt
at_met (Ok D.Negative) w = tt
at_met (Ok D.Zero) w = tt
at_met (Err r) w = among_more 7 9 r tt w

held_met : (s : Outcome Side) (m : Outcome Meet) → Sided s → Met m → Met (held_back s m)
unfolding held_back
held_met (Ok D.Positive) m x w = w
held_met (Ok D.Negative) m x w = w
held_met (Ok D.Zero) m x w = w
held_met (Err r) m x w = among_more 7 9 r tt x

corner_met : (a b : Outcome Side) → Sided a → Sided b → Met (corner_meet a b)
unfolding corner_meet
corner_met a b x y = held_met a (held_back b (at_corner a)) x (held_met b (at_corner a) y (at_met a x))

landed_met : (s : Outcome Side) (q : Point3) → Sided s → Met (landed s q)
unfolding landed
landed_met (Ok D.Positive) q w = among 9 9 tt tt
landed_met (Ok D.Negative) q w = among 9 9 tt tt
landed_met (Ok D.Zero) q w = tt
landed_met (Err r) q w = among_more 7 9 r tt w

vague_met : (b : Bool) (m : Outcome Meet) → Met m → Met (unless_vague b m)
vague_met true m w = among 8 9 tt tt
vague_met false m w = w

cut_met : (t : Precision) (w : Plane) (a b : Point3) → Met (cut_meet t w a b)
unfolding cut_meet
cut_met t w a b =
    let q = between w a b in
    vague_met (no_ratio w a b) (landed (side_of t w q) q) (landed_met (side_of t w q) q (side_numbered t w q))

either_met : (b : Bool) (m : Outcome Meet) → Met m → Met (cond b m (Ok M.Drop))
either_met true m w = w
either_met false m w = tt

edge_met : (t : Precision) (w : Plane) (a b : Point3) (x y : Outcome Side) → Met (edge_meet t w a b x y)
unfolding edge_meet
edge_met t w a b x y = either_met (crosses x y) (cut_meet t w a b) (cut_met t w a b)

-- ---- a face

push_face_numbered : (s : Ring) (q : Point3) → Numbered 12 (push_face s q)
unfolding push_face
push_face_numbered s q = numbered_unless (leb 128 (length s.face)) 12 tt tt (answer _)

push_cap_numbered : (s : Ring) (q : Point3) → Numbered 12 (push_cap s q)
unfolding push_cap
push_cap_numbered s q = numbered_unless (leb 1024 (length s.cap)) 12 tt tt (answer _)

push_both_numbered : (s : Ring) (q : Point3) → Numbered 12 (push_both s q)
unfolding push_both
push_both_numbered s q = numbered_then (push_face_numbered s q) (λ u. push_cap_numbered u q)

pushed_numbered : (s : Ring) (a : Point3) (m : Outcome Meet) → Met m → Numbered 12 (pushed s a m)
unfolding pushed
pushed_numbered s a (Ok M.Keep) w = push_face_numbered s a
pushed_numbered s a (Ok M.Drop) w = answer s
pushed_numbered s a (Ok M.Touch) w = push_both_numbered s a
pushed_numbered s a (Ok (M.Cut x y z)) w = push_both_numbered s _
pushed_numbered s a (Err r) w = number r (among_more 9 12 r tt w)

by_numbered : (t : Precision) (w : Plane) (s : Ring) (a b : Point3) (x y : Outcome Side) → Sided x → Sided y → Numbered 12 (cut_by t w s a b x y)
unfolding cut_by
by_numbered t w s a b x y h k = numbered_then (pushed_numbered s a (corner_meet x y) (corner_met x y h k)) (λ u. pushed_numbered u a (edge_meet t w a b x y) (edge_met t w a b x y))

ring_numbered : (t : Precision) (w : Plane) (cap l : List Point3) → Numbered 12 (cut_ring t w cap l)
unfolding cut_ring cut_edge
ring_numbered t w cap l =
    numbered_walk (cut_edge t w) (λ s e. by_numbered t w s e.from e.to (side_of t w e.from) (side_of t w e.to) (side_numbered t w e.from) (side_numbered t w e.to)) _ (cyclic l)

-- ---- the cap

chain_numbered : (l : List Flat) (p : Flat) → Numbered 12 (chain_one l p)
unfolding chain_one
chain_numbered [] p = answer _
chain_numbered (b ∷ []) p = answer _
chain_numbered (b ∷ a ∷ r) p = by (turn a b p) (chain_numbered (a ∷ r) p)
  where
    by : (x : Turn) → Numbered 12 (chain_one (a ∷ r) p) → Numbered {A = List Flat} 12 (elim x [ T.Positive ↦ Ok (p ∷ b ∷ a ∷ r) | T.Negative ↦ chain_one (a ∷ r) p | T.Zero ↦ chain_one (a ∷ r) p | T.None ↦ refuse 10 ])
    by T.Positive h = answer _
    by T.Negative h = h
    by T.Zero h = h
    by T.None h = numbered_at 10 tt tt

ringed_numbered : (l : List Point3) → Numbered 12 (ringed l)
unfolding ringed
ringed_numbered l = numbered_unless (ltb (length l) 3) 10 tt tt (answer l)

chains_numbered : (l : List Flat) → Numbered 12 (chains l)
unfolding chains chain
chains_numbered l = numbered_then (numbered_walk chain_one chain_numbered [] (reverse l)) (λ a. numbered_then (numbered_walk chain_one chain_numbered [] l) (λ b. ringed_numbered _))

hull_numbered : (t : Precision) (w : Plane) (l : List Point3) → Numbered 12 (hull t w l)
unfolding hull hull_on
hull_numbered t w l = numbered_then (numbered_more tt (unique_numbered t l)) (λ k. numbered_unless (ltb (length k) 3) 10 tt tt (chains_numbered _))

cap_numbered : (t : Precision) (w : Plane) (l : List Point3) → Numbered 12 (cap_of t w l)
unfolding cap_of cap_face
cap_numbered t w l = numbered_then (hull_numbered t w l) (λ k. numbered_unless (ltb 128 (length k)) 12 tt tt (answer k))

-- ---- a cell

add_face_numbered : (room : ℕ) (c : Cell) (f : Face) → Numbered 12 (add_face room c f)
unfolding add_face
add_face_numbered room c f = numbered_unless (is_full room (length c) (corners 0 c) (length f.points)) 12 tt tt (answer _)

keep_face_numbered : (b : Bool) (room : ℕ) (c : Cell) (f : Face) → Numbered 12 (keep_face b room c f)
unfolding keep_face
keep_face_numbered true room c f = answer c
keep_face_numbered false room c f = add_face_numbered room c f

joined_numbered : (t : Precision) (room : ℕ) (c : Cell) (w : Plane) (r : Ring) → Numbered 12 (joined t room c w r)
unfolding joined
joined_numbered t room c w r =
    numbered_then (numbered_more tt (unique_numbered t r.face)) (λ l. numbered_then (keep_face_numbered (ltb (length l) 3) room c _) (λ d. answer _))

cut_numbered : (t : Precision) (room : ℕ) (w : Plane) (c : Cell) → Numbered 12 (cut_cell t room w c)
unfolding cut_cell cut_faces cut_face closed
cut_numbered t room w c =
    numbered_then (numbered_walk (cut_face t room w) (λ s f. numbered_then (ring_numbered t w s.cap f.points) (λ r. joined_numbered t room s.cell f.plane r)) _ c) (λ s.
    numbered_then (cap_numbered t w s.cap) (λ l. add_face_numbered room s.cell _))

by_signs_numbered : (t : Precision) (room : ℕ) (w : Plane) (c : Cell) (negative positive : Bool) → Numbered 12 (clip_by t room w c negative positive)
unfolding clip_by left_cell
by_signs_numbered t room w c false positive = answer _
by_signs_numbered t room w c true false = numbered_then (numbered_walk (add_face room) (add_face_numbered room) [] c) (λ d. answer _)
by_signs_numbered t room w c true true = numbered_then (cut_numbered t room w c) (λ d. answer _)

pub clip_numbered : (t : Precision) (room : ℕ) (w : Plane) (c : Cell) → Numbered 12 (clip t room w c)
unfolding clip
clip_numbered t room w c = numbered_then (numbered_more tt (signs_numbered t w c)) (λ s. by_signs_numbered t room w c s.negative s.positive)

-- ---- lists of cells

add_cell_numbered : (room : ℕ) (cs : List Cell) (c : Cell) → Numbered 12 (add_cell room cs c)
unfolding add_cell
add_cell_numbered room cs c = numbered_unless (ltb room (all_corners (corners 0 c) cs)) 12 tt tt (answer _)

add_part_numbered : (room : ℕ) (cs : List Cell) (p : Part) → Numbered 12 (add_part room cs p)
unfolding add_part
add_part_numbered room cs nothing = answer cs
add_part_numbered room cs (part c) = add_cell_numbered room cs c

add_cut_numbered : (t : Precision) (room : ℕ) (w : Plane) (c : Cell) (cs : List Cell) → Numbered 12 (add_cut t room w c cs)
unfolding add_cut
add_cut_numbered t room w c cs = numbered_then (clip_numbered t room w c) (add_part_numbered room cs)

carve_numbered : (t : Precision) (room : ℕ) (out : List Cell) (p : Part) (w : Plane) → Numbered 12 (carve_part t room out p w)
unfolding carve_part carve_cell carve_on
carve_numbered t room out nothing w = answer _
carve_numbered t room out (part c) w =
    numbered_then (numbered_more tt (opposite_numbered t w)) (λ o. numbered_then (add_cut_numbered t room o c out) (λ more. numbered_then (clip_numbered t room w c) (λ r. answer _)))

clip_part_numbered : (t : Precision) (room : ℕ) (w : Plane) (p : Part) → Numbered 12 (clip_part t room w p)
unfolding clip_part
clip_part_numbered t room w nothing = answer nothing
clip_part_numbered t room w (part c) = clip_numbered t room w c

minus_numbered : (t : Precision) (room : ℕ) (a b : Cell) → Numbered 12 (minus t room a b)
unfolding minus carve
minus_numbered t room a b = numbered_then (numbered_walk (carve t room) (λ s f. carve_numbered t room s.out s.rest f.plane) _ b) (λ s. answer s.out)

pub cut_cells_numbered : (op : Operation) (t : Precision) (room : ℕ) (a b : Cell) → Numbered 12 (cells op t room a b)
unfolding cells common both clip_face
cut_cells_numbered Intersection t room a b = numbered_then (numbered_walk (clip_face t room) (λ p f. clip_part_numbered t room f.plane p) _ b) (add_part_numbered room [])
cut_cells_numbered Difference t room a b = minus_numbered t room a b
cut_cells_numbered Union t room a b = numbered_then (minus_numbered t room a b) (λ cs. add_cell_numbered room cs b)

-- ---- pieces

split_cell_numbered : (t : Precision) (room : ℕ) (p o : Plane) (c : Cell) (next : List Cell) → Numbered 12 (split_cell t room p o c next)
unfolding split_cell budget
split_cell_numbered t room p o c next =
    numbered_then (add_cut_numbered t room p c next) (λ a. numbered_then (add_cut_numbered t room o c a) (λ cs. numbered_unless (ltb 512 (length cs)) 11 tt tt (answer cs)))

split_plane_numbered : (t : Precision) (room : ℕ) (cs : List Cell) (p : Plane) → Numbered 12 (split_plane t room cs p)
unfolding split_plane split_on
split_plane_numbered t room cs p = numbered_then (numbered_more tt (opposite_numbered t p)) (λ o. numbered_walk _ (λ next c. split_cell_numbered t room p o c next) [] cs)

pub pieces_numbered : (op : Operation) (t : Precision) (room : ℕ) (a b : Cell) → Numbered 12 (pieces_of op t room a b)
unfolding pieces_of split_all
pieces_numbered op t room a b = numbered_then (cut_cells_numbered op t room a b) (λ cs. numbered_walk (split_plane t room) (split_plane_numbered t room) cs (planes_of a ++ planes_of b))
