-- An offset at one vertex and of one plane: 24, 25, 26 and 5. Definitions only.
use Rattle.std.specs.Prelude.{◌+◌, Bool, true, false, not, ◌||◌, cond, List, [], ◌∷◌, ◌++◌, length, get_or, eqb, Float, Ok}
use Rattle.std.specs.Float.{binary64}
use Rattle.std.specs.Float.Ieee.{of_bits, div, neg, lt}
use Rattle.refusal.specs.Outcome.{Outcome, then, unless}
use Rattle.interval.specs.declared.Interval.{Interval}
use Rattle.interval.specs.Ends.{one, point_i, sub_i, holds_zero}
use Rattle.interval.specs.Box.{dot_i}
use Rattle.space.specs.declared.Point3.{Point3}
use Rattle.space.specs.declared.Precision.{Precision}
use Rattle.space.specs.declared.Plane.{Plane}
use Rattle.space.specs.Vector.{sub_v, add_v, scale_v, dot_v, cross_v, box_of, origin}
use Rattle.space.specs.Frames.{plane_of, with_mark}
use Rattle.shift.specs.declared.Push.{Push}
use Rattle.shift.specs.declared.Meeting.{Meeting}

-- what the answer of a moved point says
-- a face that meets a vertex: its normal, and how far it is pushed
abbrev pub push_of : Plane → Float → Push
push_of w d = record { normal = w.frame.z; by = d }

-- a face that stays where it is
abbrev pub still : Push
still = record { normal = origin; by = of_bits binary64 0 }

-- the first three faces at a vertex, and how many there are
unfoldable pub meeting : List Push → Meeting
meeting l = record { a = get_or l 0 still; b = get_or l 1 still; c = get_or l 2 still; n = length l }

-- one face more
unfoldable pub noted : Meeting → Push → Meeting
noted m p = record {
  a = cond (eqb m.n 0) p m.a;
  b = cond (eqb m.n 1) p m.b;
  c = cond (eqb m.n 2) p m.c;
  n = m.n + 1;
}

-- and where it meets the vertex, to the three and to the list of all
unfoldable pub noted_if : Bool → Meeting → Push → Meeting
noted_if true m p = noted m p
noted_if false m p = m

unfoldable pub push_if : Bool → List Push → Push → List Push
push_if true l p = l ++ (p ∷ [])
push_if false l p = l

-- 000: the point where the three pushed planes meet, from the old one; n is the cross of the second and third normals
unfoldable pub delta_of : Push → Push → Push → Point3 → Point3
delta_of a b c n =
    scale_v (add_v (add_v (scale_v n a.by) (scale_v (cross_v c.normal a.normal) b.by)) (scale_v (cross_v a.normal b.normal) c.by))
    (div binary64 one (dot_v a.normal n))

-- how far a move d misses the distance of one face
unfoldable pub residual : Point3 → Push → Interval
residual d p = sub_i (dot_i (box_of d) (box_of p.normal)) (point_i p.by)

unfoldable pub outside : Precision → Interval → Bool
outside t r = lt r.lo (neg t.local) || lt t.local r.hi

abbrev pub missed : Precision → Push → Push → Push → Point3 → Bool
missed t a b c d = outside t (residual d a) || (outside t (residual d b) || outside t (residual d c))

-- 26: "residual"
unfoldable pub moved_to : Precision → Push → Push → Push → Point3 → Point3 → Outcome Point3
moved_to t a b c p q = unless (missed t a b c (sub_v q p)) 26 (Ok q)

-- 25: "determinant holds zero"
unfoldable pub flat : Push → Point3 → Bool
flat a n = holds_zero (dot_i (box_of a.normal) (box_of n))

unfoldable pub moved_by : Precision → Push → Push → Push → Point3 → Point3 → Outcome Point3
moved_by t a b c p n = unless (flat a n) 25 (moved_to t a b c p (add_v p (delta_of a b c n)))

-- 24: "not three faces at a vertex"
unfoldable pub moved_at : Precision → Point3 → Meeting → Outcome Point3
moved_at t p m = unless (not (eqb m.n 3)) 24 (moved_by t m.a m.b m.c p (cross_v m.b.normal m.c.normal))

-- the plane of a face, pushed along its normal, with the same mark
unfoldable pub moved_plane : Precision → Plane → Float → Outcome Plane
moved_plane t w d = then (plane_of t (add_v w.frame.origin (scale_v w.frame.z d)) w.frame.z w.frame.x) (with_mark w.mark)
