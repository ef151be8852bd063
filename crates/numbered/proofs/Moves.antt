-- An offset: up to 27; the wall of a hollow: up to 29.
use Rattle.std.specs.Prelude.{Bool, true, false, not, cond, List, [], ◌∷◌, ◌++◌, ℕ, suc, length, replicate, eqb, ltb, Float, Ok, Err}
use Rattle.refusal.specs.Outcome.{Outcome, refusal_of}
use Rattle.lists.specs.Walks.{all}
use Rattle.float.specs.Float.{finite}
use Rattle.space.specs.declared.Point3.{Point3}
use Rattle.space.specs.declared.Precision.{Precision}
use Rattle.space.specs.Vector.{sub_v}
use Rattle.space.specs.Shapes.{Cell}
use Rattle.side.specs.declared.Side.{Side}
use Rattle.side.specs.declared.Side.TheVariants as D
use Rattle.side.specs.Sides.{side_of}
use Rattle.shift.specs.declared.Push.{Push}
use Rattle.shift.specs.declared.Meeting.{Meeting}
use Rattle.shift.specs.Shifts.{missed, moved_to, flat, moved_by, moved_at, moved_plane}
use Rattle.bounds.specs.Bounds.{not_above, well_below, judged, point_in, points_in, against}
use Rattle.offset.specs.Offsets.{Moving, move_points, move_face, not_crossed, move_all, offset_distances, offset_cell}
use Rattle.hollow.specs.Hollows.{reversed_face, room_for, hollow_room, hollow_of, hollow_in}
use Rattle.numbered.specs.Numbered.{Numbered, answer, Judged, fine, ruled, among_more, numbered_then, numbered_unless, numbered_each, numbered_heard, judged_at}
use Rattle.numbered.proofs.Numbered.{numbered_more}
use Rattle.numbered.specs.Points.{plane_numbered, opposite_numbered, Sided, side_numbered, indexed_numbered}
use Rattle.numbered.specs.Solids.{judged_each}

-- ---- one point, one plane

to_numbered : (t : Precision) (a b c : Push) (p q : Point3) → Numbered 26 (moved_to t a b c p q)
unfolding moved_to
to_numbered t a b c p q = numbered_unless (missed t a b c (sub_v q p)) 26 tt tt (answer q)

by_numbered : (t : Precision) (a b c : Push) (p n : Point3) → Numbered 26 (moved_by t a b c p n)
unfolding moved_by
by_numbered t a b c p n = numbered_unless (flat a n) 25 tt tt (to_numbered t a b c p _)

at_numbered : (t : Precision) (p : Point3) (m : Meeting) → Numbered 26 (moved_at t p m)
unfolding moved_at
at_numbered t p m = numbered_unless (not (eqb m.n 3)) 24 tt tt (by_numbered t m.a m.b m.c p _)

points_numbered : (t : Precision) (ms : List Moving) (x : ℕ) (qs ps : List Point3) → Numbered 27 (move_points t ms x qs ps)
unfolding move_points
points_numbered t ms x qs [] = answer qs
points_numbered t ms x qs (p ∷ ps) = numbered_then (numbered_more tt (at_numbered t p _)) (λ q. points_numbered t ms (suc x) (qs ++ (q ∷ [])) ps)

face_numbered : (t : Precision) (qs : List Point3) (m : Moving) → Numbered 5 (move_face t qs m)
unfolding move_face moved_plane
face_numbered t qs m = numbered_then (numbered_then (plane_numbered t _ _ _) (λ v. answer _)) (λ w. answer _)

-- ---- the corners of a cell against planes

above_judged : (s : Outcome Side) → Sided s → Judged 27 (not_above s)
unfolding not_above
above_judged (Ok D.Positive) w = judged_at 27 tt tt
above_judged (Ok D.Negative) w = fine
above_judged (Ok D.Zero) w = fine
above_judged (Err r) w = ruled r (among_more 7 27 r tt w)

below_judged : (s : Outcome Side) → Sided s → Judged 29 (well_below s)
unfolding well_below
below_judged (Ok D.Positive) w = judged_at 29 tt tt
below_judged (Ok D.Negative) w = fine
below_judged (Ok D.Zero) w = judged_at 29 tt tt
below_judged (Err r) w = ruled r (among_more 7 29 r tt w)

module _ {n : ℕ} (strict : Bool) (h : (s : Outcome Side) → Sided s → Judged n (judged strict s)) where
  against_judged : (t : Precision) (bounds c : Cell) → Judged n (against strict t bounds c)
  unfolding against points_in point_in
  against_judged t bounds c =
      judged_each _ (λ f. judged_each (point_in strict t bounds) (λ q. judged_each _ (λ b. h (side_of t b.plane q) (side_numbered t b.plane q)) bounds) f.points) c

crossed_judged : (t : Precision) (bounds c : Cell) → Judged 27 (against false t bounds c)
unfolding judged
crossed_judged = against_judged false above_judged

within_judged : (t : Precision) (bounds c : Cell) → Judged 29 (against true t bounds c)
unfolding judged
within_judged = against_judged true below_judged

-- ---- the offset

distances_numbered : (t : Precision) (ds : List Float) (c : Cell) → Numbered 27 (offset_distances t ds c)
unfolding offset_distances move_all not_crossed
distances_numbered t ds c =
    numbered_unless (not (all finite true ds)) 2 tt tt
    (numbered_then (numbered_more tt (indexed_numbered t c)) (λ s.
    numbered_then (points_numbered t _ 0 [] s.points) (λ qs.
    numbered_then (numbered_more tt (numbered_each (move_face t qs) (face_numbered t qs) [] _)) (λ d.
    numbered_heard d (crossed_judged t d d)))))

pub moved_numbered : (t : Precision) (d : Float) (c : Cell) → Numbered 27 (offset_cell t d c)
unfolding offset_cell
moved_numbered t d c = distances_numbered t (replicate (length c) d) c

-- ---- the hollow

room_judged : (room n : ℕ) → Judged 29 (room_for room n)
unfolding room_for
room_judged room n = by (ltb room n)
  where
    by : (b : Bool) → Judged 29 (cond b (Err (refusal_of 12)) (Ok tt))
    by true = judged_at 12 tt tt
    by false = fine

of_numbered : (t : Precision) (room : ℕ) (outer built : Cell) → Numbered 29 (hollow_of t room outer built)
unfolding hollow_of hollow_room reversed_face
of_numbered t room outer built =
    numbered_then (numbered_more tt (numbered_each (reversed_face t) (λ f. numbered_then (opposite_numbered t f.plane) (λ w. answer _)) [] built)) (λ inner. numbered_heard _ (room_judged room _))

pub wall_numbered : (t : Precision) (room : ℕ) (outer moved built : Cell) → Numbered 29 (hollow_in t room outer moved built)
unfolding hollow_in
wall_numbered t room outer moved built = numbered_then (numbered_heard built (within_judged t outer moved)) (of_numbered t room outer)
