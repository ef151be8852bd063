-- The values that the offsets of the box 0..2 give. Assumes nothing.
use Rattle.std.specs.Prelude.{true, false, [], ◌∷◌, pos, negsuc, Float}
use Rattle.std.specs.Float.{fin}
use Rattle.space.specs.declared.Plane.{Plane}
use Rattle.space.specs.Shapes.{Cell, Solid}
use Rattle.worked.specs.Shapes.{pt, n0, n1, m0, m1, plane, face, plane_x}

-- 1/2 and 3/2; the distances -1/2, -1 and -2
abbrev pub h1 : Float
h1 = fin false 1 (negsuc 0)

abbrev pub h3 : Float
h3 = fin false 3 (negsuc 0)

abbrev pub by_half : Float
by_half = fin true 1 (negsuc 0)

abbrev pub by_two : Float
by_two = fin true 1 (pos 1)

-- the planes of the box, low z, high z, low y, high y, low x, at two places on their axes
abbrev pub low_z : Float → Plane
low_z a = plane (pt n0 n0 a) (pt n0 n1 n0) (pt n1 m0 n0) (pt n0 n0 m1)

abbrev pub high_z : Float → Plane
high_z a = plane (pt n0 n0 a) (pt n1 n0 n0) (pt n0 n1 n0) (pt n0 n0 n1)

abbrev pub low_y : Float → Plane
low_y a = plane (pt n0 a n0) (pt n1 n0 n0) (pt m0 n0 n1) (pt n0 m1 n0)

abbrev pub high_y : Float → Plane
high_y a = plane (pt n0 a n0) (pt n0 n0 n1) (pt n1 n0 n0) (pt n0 n1 n0)

abbrev pub low_x : Float → Plane
low_x a = plane (pt a n0 n0) (pt n0 n0 n1) (pt n0 n1 m0) (pt m1 n0 n0)

-- the box a..b on moved planes
abbrev pub moved_box : Float → Float → Cell
moved_box a b =
    face (low_z a) (pt a a a ∷ pt a b a ∷ pt b b a ∷ pt b a a ∷ [])
    ∷ face (high_z b) (pt a a b ∷ pt b a b ∷ pt b b b ∷ pt a b b ∷ [])
    ∷ face (low_y a) (pt a a a ∷ pt b a a ∷ pt b a b ∷ pt a a b ∷ [])
    ∷ face (high_y b) (pt a b a ∷ pt a b b ∷ pt b b b ∷ pt b b a ∷ [])
    ∷ face (low_x a) (pt a a a ∷ pt a a b ∷ pt a b b ∷ pt a b a ∷ [])
    ∷ face (plane_x b) (pt b a a ∷ pt b b a ∷ pt b b b ∷ pt b a b ∷ [])
    ∷ []

-- the points of that box in `indexed` order, and its faces by their places
abbrev pub solid_box : Float → Float → Solid
solid_box a b = record {
  points = pt a a a ∷ pt a b a ∷ pt b b a ∷ pt b a a ∷ pt a a b ∷ pt b a b ∷ pt b b b ∷ pt a b b ∷ [];
  faces = (0 ∷ 1 ∷ 2 ∷ 3 ∷ []) ∷ (4 ∷ 5 ∷ 6 ∷ 7 ∷ []) ∷ (0 ∷ 3 ∷ 5 ∷ 4 ∷ []) ∷ (1 ∷ 7 ∷ 6 ∷ 2 ∷ []) ∷ (0 ∷ 4 ∷ 7 ∷ 1 ∷ []) ∷ (3 ∷ 2 ∷ 6 ∷ 5 ∷ []) ∷ [];
}
