-- Planes: up to 5; near points, and the points of a cell, each once: up to 6; sides: up to 7; merged points: up to 14.
use Rattle.refusal.specs.Outcome.{Outcome}
use Rattle.std.specs.Prelude.{Bool, true, false, List, [], ◌∷◌, ℕ, suc, Float, Ok, Err}
use Rattle.interval.specs.declared.Interval.{Interval}
use Rattle.interval.specs.declared.Sign.{Sign}
use Rattle.interval.specs.declared.Sign.TheVariants as S
use Rattle.interval.specs.Ends.{point_i, add_i, sub_i, sign_of}
use Rattle.space.specs.declared.Point3.{Point3}
use Rattle.space.specs.declared.Precision.{Precision}
use Rattle.space.specs.declared.Plane.{Plane}
use Rattle.space.specs.declared.Closeness.{Closeness}
use Rattle.space.specs.declared.Closeness.TheVariants as C
use Rattle.space.specs.Shapes.{Face, Cell, Solid}
use Rattle.space.specs.Vector.{length_v, over_v}
use Rattle.space.specs.Near.{closeness_of, near_of}
use Rattle.space.specs.Frames.{short, frame_by, hint_on, frame_along, frame_up, frame_of, plane_of, face_plane}
use Rattle.side.specs.declared.Side.{Side}
use Rattle.side.specs.declared.Side.TheVariants as D
use Rattle.side.specs.Sides.{distance_of, is_positive, is_negative, within, first_of, classed, side_of, opposite_of}
use Rattle.polygon.specs.Unique.{both, scan, keep_if, keep_one, unique}
use Rattle.indexed.specs.Indexed.{Search, place_in, index_point, index_face, index_faces, indexed}
use Rattle.numbered.specs.Numbered.{Among, among, Numbered, answer, number, numbered_then, numbered_unless, numbered_walk}

-- ---- planes

pub plane_numbered : (t : Precision) (o n h : Point3) → Numbered 5 (plane_of t o n h)
unfolding plane_of frame_of frame_up frame_along frame_by
plane_numbered t o n h =
    numbered_then (numbered_unless (short t (length_v n)) 5 tt tt (numbered_unless (short t (length_v (hint_on h (over_v n (length_v n))))) 5 tt tt (answer _))) (λ f. answer _)

pub face_plane_numbered : (t : Precision) (a b c : Point3) → Numbered 5 (face_plane t a b c)
unfolding face_plane
face_plane_numbered t a b c = plane_numbered t a _ _

pub opposite_numbered : (t : Precision) (w : Plane) → Numbered 5 (opposite_of t w)
unfolding opposite_of
opposite_numbered t w = numbered_then (plane_numbered t _ _ _) (λ v. answer _)

-- ---- sides

-- a side that refuses has a number up to 7
abbrev pub Sided : Outcome Side → Type 0
Sided (Ok D.Positive) = Unit {0}
Sided (Ok D.Negative) = Unit {0}
Sided (Ok D.Zero) = Unit {0}
Sided (Err r) = Among 7 r

first_numbered : (p n z : Bool) → Sided (first_of p n z)
first_numbered true n z = tt
first_numbered false true z = tt
first_numbered false false true = tt
first_numbered false false false = among 7 7 tt tt

class_numbered : (d : Interval) (t : Float) → Sided (classed d t)
unfolding classed
class_numbered d t = first_numbered (is_positive (sign_of (sub_i d (point_i t)))) (is_negative (sign_of (add_i d (point_i t)))) (within d t)

pub side_numbered : (t : Precision) (w : Plane) (q : Point3) → Sided (side_of t w q)
unfolding side_of
side_numbered t w q = class_numbered (distance_of w q) t.local

-- ---- near points

-- a comparison that refuses has a number up to 6
abbrev pub Close : Outcome Closeness → Type 0
Close (Ok C.Near) = Unit {0}
Close (Ok C.Apart) = Unit {0}
Close (Err r) = Among 6 r

closeness_numbered : (s : Sign) → Close (closeness_of s)
unfolding closeness_of
closeness_numbered S.Positive = tt
closeness_numbered S.Negative = tt
closeness_numbered S.Zero = tt
closeness_numbered S.Unknown = among 6 6 tt tt

pub near_numbered : (t : Precision) (a b : Point3) → Close (near_of t a b)
unfolding near_of
near_numbered t a b = closeness_numbered _

both_numbered : (c d : Outcome Closeness) → Close c → Close d → Close (both c d)
unfolding both
both_numbered (Err r) d x y = x
both_numbered (Ok C.Apart) d x y = y
both_numbered (Ok C.Near) (Ok C.Near) x y = tt
both_numbered (Ok C.Near) (Ok C.Apart) x y = tt
both_numbered (Ok C.Near) (Err r) x y = y

scan_numbered : (t : Precision) (q : Point3) (s : Outcome Closeness) (l : List Point3) → Close s → Close (scan t q s l)
unfolding scan
scan_numbered t q s [] w = w
scan_numbered t q s (r ∷ l) w = scan_numbered t q (both s (near_of t q r)) l (both_numbered s (near_of t q r) w (near_numbered t q r))

keep_numbered : (c : Outcome Closeness) (kept : List Point3) (q : Point3) → Close c → Numbered 6 (keep_if c kept q)
unfolding keep_if
keep_numbered (Ok C.Near) kept q w = answer _
keep_numbered (Ok C.Apart) kept q w = answer _
keep_numbered (Err r) kept q w = number r w

pub unique_numbered : (t : Precision) (l : List Point3) → Numbered 6 (unique t l)
unfolding unique keep_one
unique_numbered t l = numbered_walk (keep_one t) (λ kept q. keep_numbered (scan t q (Ok C.Apart) kept) kept q (scan_numbered t q (Ok C.Apart) kept tt)) [] l

-- ---- the points of a cell, each once

place_numbered : (t : Precision) (q : Point3) (i : ℕ) (l : List Point3) → Numbered 6 (place_in t q i l)
unfolding place_in
place_numbered t q i [] = answer i
place_numbered t q i (r ∷ l) = by (near_of t q r) (near_numbered t q r) (place_numbered t q (suc i) l)
  where
    by : (c : Outcome Closeness) → Close c → Numbered 6 (place_in t q (suc i) l) → Numbered {A = ℕ} 6 (elim c [ Ok C.Near ↦ Ok i | Ok C.Apart ↦ place_in t q (suc i) l | Err x ↦ Err x ])
    by (Ok C.Near) w h = answer i
    by (Ok C.Apart) w h = h
    by (Err x) w h = number x w

module _ {n : ℕ} (find : Search) (h : (q : Point3) (l : List Point3) → Numbered n (find q l)) where
  face_numbered : (s : Solid) (f : Face) → Numbered n (index_face find s f)
  unfolding index_face index_point
  face_numbered s f = numbered_then (numbered_walk (index_point find) (λ p q. numbered_then (h q p.points) (λ i. answer _)) _ f.points) (λ r. answer _)

  pub faces_numbered : (c : Cell) → Numbered n (index_faces find c)
  faces_numbered c = numbered_walk (index_face find) face_numbered _ c

pub indexed_numbered : (t : Precision) (c : Cell) → Numbered 6 (indexed t c)
unfolding indexed
indexed_numbered t c = faces_numbered (λ q l. place_in t q 0 l) (λ q l. place_numbered t q 0 l) c
