-- The values that the intersection of the boxes 0..2 and 1..3 passes through. Assumes nothing.
use Rattle.std.specs.Prelude.{false, List, [], ◌∷◌, pos, Float}
use Rattle.std.specs.Float.{fin}
use Rattle.space.specs.declared.Point3.{Point3}
use Rattle.space.specs.declared.Plane.{Plane}
use Rattle.space.specs.Shapes.{Cell, Solid}
use Rattle.worked.specs.Shapes.{pt, n0, n1, n2, m0, m1, plane, face, plane_x, a2, a3, a4, a5}

abbrev pub n3 : Float
n3 = fin false 3 (pos 0)

-- the corners of the faces of the box 1..3: low z, high z, low y, high y, low x, high x
abbrev pub box_faces13 : List (List Point3)
box_faces13 =
    (pt n1 n1 n1 ∷ pt n1 n3 n1 ∷ pt n3 n3 n1 ∷ pt n3 n1 n1 ∷ [])
    ∷ (pt n1 n1 n3 ∷ pt n3 n1 n3 ∷ pt n3 n3 n3 ∷ pt n1 n3 n3 ∷ [])
    ∷ (pt n1 n1 n1 ∷ pt n3 n1 n1 ∷ pt n3 n1 n3 ∷ pt n1 n1 n3 ∷ [])
    ∷ (pt n1 n3 n1 ∷ pt n1 n3 n3 ∷ pt n3 n3 n3 ∷ pt n3 n3 n1 ∷ [])
    ∷ (pt n1 n1 n1 ∷ pt n1 n1 n3 ∷ pt n1 n3 n3 ∷ pt n1 n3 n1 ∷ [])
    ∷ (pt n3 n1 n1 ∷ pt n3 n3 n1 ∷ pt n3 n3 n3 ∷ pt n3 n1 n3 ∷ [])
    ∷ []

abbrev pub b1 : Plane
b1 = plane (pt n1 n1 n1) (pt n0 n1 n0) (pt n1 m0 n0) (pt n0 n0 m1)

abbrev pub b2 : Plane
b2 = plane (pt n1 n1 n3) (pt n1 n0 n0) (pt n0 n1 n0) (pt n0 n0 n1)

abbrev pub b3 : Plane
b3 = plane (pt n1 n1 n1) (pt n1 n0 n0) (pt m0 n0 n1) (pt n0 m1 n0)

abbrev pub b4 : Plane
b4 = plane (pt n1 n3 n1) (pt n0 n0 n1) (pt n1 n0 n0) (pt n0 n1 n0)

abbrev pub b5 : Plane
b5 = plane (pt n1 n1 n1) (pt n0 n0 n1) (pt n0 n1 m0) (pt m1 n0 n0)

abbrev pub b6 : Plane
b6 = plane (pt n3 n1 n1) (pt n0 n1 n0) (pt n0 n0 n1) (pt n1 n0 n0)

abbrev pub cell_b : Cell
cell_b =
    face b1 (pt n1 n1 n1 ∷ pt n1 n3 n1 ∷ pt n3 n3 n1 ∷ pt n3 n1 n1 ∷ [])
    ∷ face b2 (pt n1 n1 n3 ∷ pt n3 n1 n3 ∷ pt n3 n3 n3 ∷ pt n1 n3 n3 ∷ [])
    ∷ face b3 (pt n1 n1 n1 ∷ pt n3 n1 n1 ∷ pt n3 n1 n3 ∷ pt n1 n1 n3 ∷ [])
    ∷ face b4 (pt n1 n3 n1 ∷ pt n1 n3 n3 ∷ pt n3 n3 n3 ∷ pt n3 n3 n1 ∷ [])
    ∷ face b5 (pt n1 n1 n1 ∷ pt n1 n1 n3 ∷ pt n1 n3 n3 ∷ pt n1 n3 n1 ∷ [])
    ∷ face b6 (pt n3 n1 n1 ∷ pt n3 n3 n1 ∷ pt n3 n3 n3 ∷ pt n3 n1 n3 ∷ [])
    ∷ []

-- what the first, the third and the fifth plane leave; the others cut nothing off
abbrev pub cut1 : Cell
cut1 =
    face a2 (pt n0 n0 n2 ∷ pt n2 n0 n2 ∷ pt n2 n2 n2 ∷ pt n0 n2 n2 ∷ [])
    ∷ face a3 (pt n2 n0 n1 ∷ pt n2 n0 n2 ∷ pt n0 n0 n2 ∷ pt n0 n0 n1 ∷ [])
    ∷ face a4 (pt n0 n2 n1 ∷ pt n0 n2 n2 ∷ pt n2 n2 n2 ∷ pt n2 n2 n1 ∷ [])
    ∷ face a5 (pt n0 n0 n1 ∷ pt n0 n0 n2 ∷ pt n0 n2 n2 ∷ pt n0 n2 n1 ∷ [])
    ∷ face (plane_x n2) (pt n2 n2 n1 ∷ pt n2 n2 n2 ∷ pt n2 n0 n2 ∷ pt n2 n0 n1 ∷ [])
    ∷ face b1 (pt n0 n0 n1 ∷ pt n0 n2 n1 ∷ pt n2 n2 n1 ∷ pt n2 n0 n1 ∷ [])
    ∷ []

abbrev pub cut3 : Cell
cut3 =
    face a2 (pt n2 n1 n2 ∷ pt n2 n2 n2 ∷ pt n0 n2 n2 ∷ pt n0 n1 n2 ∷ [])
    ∷ face a4 (pt n0 n2 n1 ∷ pt n0 n2 n2 ∷ pt n2 n2 n2 ∷ pt n2 n2 n1 ∷ [])
    ∷ face a5 (pt n0 n1 n2 ∷ pt n0 n2 n2 ∷ pt n0 n2 n1 ∷ pt n0 n1 n1 ∷ [])
    ∷ face (plane_x n2) (pt n2 n2 n1 ∷ pt n2 n2 n2 ∷ pt n2 n1 n2 ∷ pt n2 n1 n1 ∷ [])
    ∷ face b1 (pt n0 n1 n1 ∷ pt n0 n2 n1 ∷ pt n2 n2 n1 ∷ pt n2 n1 n1 ∷ [])
    ∷ face b3 (pt n0 n1 n1 ∷ pt n2 n1 n1 ∷ pt n2 n1 n2 ∷ pt n0 n1 n2 ∷ [])
    ∷ []

abbrev pub cut5 : Cell
cut5 =
    face a2 (pt n2 n1 n2 ∷ pt n2 n2 n2 ∷ pt n1 n2 n2 ∷ pt n1 n1 n2 ∷ [])
    ∷ face a4 (pt n1 n2 n2 ∷ pt n2 n2 n2 ∷ pt n2 n2 n1 ∷ pt n1 n2 n1 ∷ [])
    ∷ face (plane_x n2) (pt n2 n2 n1 ∷ pt n2 n2 n2 ∷ pt n2 n1 n2 ∷ pt n2 n1 n1 ∷ [])
    ∷ face b1 (pt n1 n2 n1 ∷ pt n2 n2 n1 ∷ pt n2 n1 n1 ∷ pt n1 n1 n1 ∷ [])
    ∷ face b3 (pt n1 n1 n1 ∷ pt n2 n1 n1 ∷ pt n2 n1 n2 ∷ pt n1 n1 n2 ∷ [])
    ∷ face b5 (pt n1 n1 n1 ∷ pt n1 n1 n2 ∷ pt n1 n2 n2 ∷ pt n1 n2 n1 ∷ [])
    ∷ []

-- the box 1..2 as the answer has it
abbrev pub solid7 : Solid
solid7 = record {
  points = pt n2 n1 n2 ∷ pt n2 n2 n2 ∷ pt n1 n2 n2 ∷ pt n1 n1 n2 ∷ pt n2 n2 n1 ∷ pt n1 n2 n1 ∷ pt n2 n1 n1 ∷ pt n1 n1 n1 ∷ [];
  faces = (0 ∷ 1 ∷ 2 ∷ 3 ∷ []) ∷ (2 ∷ 1 ∷ 4 ∷ 5 ∷ []) ∷ (4 ∷ 1 ∷ 0 ∷ 6 ∷ []) ∷ (5 ∷ 4 ∷ 6 ∷ 7 ∷ []) ∷ (7 ∷ 6 ∷ 0 ∷ 3 ∷ []) ∷ (7 ∷ 3 ∷ 2 ∷ 5 ∷ []) ∷ [];
}
