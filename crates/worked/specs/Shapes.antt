-- The data of the worked cases, and the values that they pass through. Assumes nothing.
use Rattle.std.specs.Prelude.{ℕ, Bool, true, false, List, [], ◌∷◌, pos, negsuc, Float}
use Rattle.std.specs.Float.{fin, binary64}
use Rattle.std.specs.Float.Ieee.{of_bits}
use Rattle.space.specs.declared.Point3.{Point3}
use Rattle.space.specs.declared.Plane.{Plane}
use Rattle.space.specs.declared.Precision.{Precision}
use Rattle.space.specs.Shapes.{Face, Cell, Solid}
use Rattle.ears.specs.declared.Triangle.{Triangle}

abbrev pub pt : Float → Float → Float → Point3
pt a b c = record { x = a; y = b; z = c }

abbrev pub n0 : Float
n0 = fin false 0 (pos 0)

abbrev pub n1 : Float
n1 = fin false 1 (pos 0)

abbrev pub n2 : Float
n2 = fin false 1 (pos 1)

abbrev pub m0 : Float
m0 = fin true 0 (pos 0)

abbrev pub m1 : Float
m1 = fin true 1 (pos 0)

-- "linear 2^-20, local 2^-18"
abbrev pub tol : Precision
tol = record { linear = fin false 1 (negsuc 19); local = fin false 1 (negsuc 17) }

abbrev pub plane : Point3 → Point3 → Point3 → Point3 → Plane
plane o x y z = record { frame = record { origin = o; x = x; y = y; z = z }; mark = of_bits binary64 0 }

abbrev pub face : Plane → List Point3 → Face
face p l = record { plane = p; points = l }

-- the plane at x = a, normal +x, hint +y
abbrev pub plane_x : Float → Plane
plane_x a = plane (pt a n0 n0) (pt n0 n1 n0) (pt n0 n0 n1) (pt n1 n0 n0)

-- the corners of the faces of the box 0..2: low z, high z, low y, high y, low x, high x
abbrev pub box_faces : List (List Point3)
box_faces =
    (pt n0 n0 n0 ∷ pt n0 n2 n0 ∷ pt n2 n2 n0 ∷ pt n2 n0 n0 ∷ [])
    ∷ (pt n0 n0 n2 ∷ pt n2 n0 n2 ∷ pt n2 n2 n2 ∷ pt n0 n2 n2 ∷ [])
    ∷ (pt n0 n0 n0 ∷ pt n2 n0 n0 ∷ pt n2 n0 n2 ∷ pt n0 n0 n2 ∷ [])
    ∷ (pt n0 n2 n0 ∷ pt n0 n2 n2 ∷ pt n2 n2 n2 ∷ pt n2 n2 n0 ∷ [])
    ∷ (pt n0 n0 n0 ∷ pt n0 n0 n2 ∷ pt n0 n2 n2 ∷ pt n0 n2 n0 ∷ [])
    ∷ (pt n2 n0 n0 ∷ pt n2 n2 n0 ∷ pt n2 n2 n2 ∷ pt n2 n0 n2 ∷ [])
    ∷ []

abbrev pub a1 : Plane
a1 = plane (pt n0 n0 n0) (pt n0 n1 n0) (pt n1 m0 n0) (pt n0 n0 m1)

abbrev pub a2 : Plane
a2 = plane (pt n0 n0 n2) (pt n1 n0 n0) (pt n0 n1 n0) (pt n0 n0 n1)

abbrev pub a3 : Plane
a3 = plane (pt n0 n0 n0) (pt n1 n0 n0) (pt m0 n0 n1) (pt n0 m1 n0)

abbrev pub a4 : Plane
a4 = plane (pt n0 n2 n0) (pt n0 n0 n1) (pt n1 n0 n0) (pt n0 n1 n0)

abbrev pub a5 : Plane
a5 = plane (pt n0 n0 n0) (pt n0 n0 n1) (pt n0 n1 m0) (pt m1 n0 n0)

-- the box 0..2, and what the cut at x = 1 leaves of it
abbrev pub cell_a : Cell
cell_a =
    face a1 (pt n0 n0 n0 ∷ pt n0 n2 n0 ∷ pt n2 n2 n0 ∷ pt n2 n0 n0 ∷ [])
    ∷ face a2 (pt n0 n0 n2 ∷ pt n2 n0 n2 ∷ pt n2 n2 n2 ∷ pt n0 n2 n2 ∷ [])
    ∷ face a3 (pt n0 n0 n0 ∷ pt n2 n0 n0 ∷ pt n2 n0 n2 ∷ pt n0 n0 n2 ∷ [])
    ∷ face a4 (pt n0 n2 n0 ∷ pt n0 n2 n2 ∷ pt n2 n2 n2 ∷ pt n2 n2 n0 ∷ [])
    ∷ face a5 (pt n0 n0 n0 ∷ pt n0 n0 n2 ∷ pt n0 n2 n2 ∷ pt n0 n2 n0 ∷ [])
    ∷ face (plane_x n2) (pt n2 n0 n0 ∷ pt n2 n2 n0 ∷ pt n2 n2 n2 ∷ pt n2 n0 n2 ∷ [])
    ∷ []

abbrev pub cut4 : Cell
cut4 =
    face a1 (pt n0 n0 n0 ∷ pt n0 n2 n0 ∷ pt n1 n2 n0 ∷ pt n1 n0 n0 ∷ [])
    ∷ face a2 (pt n0 n0 n2 ∷ pt n1 n0 n2 ∷ pt n1 n2 n2 ∷ pt n0 n2 n2 ∷ [])
    ∷ face a3 (pt n0 n0 n0 ∷ pt n1 n0 n0 ∷ pt n1 n0 n2 ∷ pt n0 n0 n2 ∷ [])
    ∷ face a4 (pt n0 n2 n0 ∷ pt n0 n2 n2 ∷ pt n1 n2 n2 ∷ pt n1 n2 n0 ∷ [])
    ∷ face a5 (pt n0 n0 n0 ∷ pt n0 n0 n2 ∷ pt n0 n2 n2 ∷ pt n0 n2 n0 ∷ [])
    ∷ face (plane_x n1) (pt n1 n0 n0 ∷ pt n1 n2 n0 ∷ pt n1 n2 n2 ∷ pt n1 n0 n2 ∷ [])
    ∷ []

-- "mesh of a square 0,1,2,3", and its plane
abbrev pub square : List Point3
square = pt n0 n0 n0 ∷ pt n1 n0 n0 ∷ pt n1 n1 n0 ∷ pt n0 n1 n0 ∷ []

abbrev pub plane_z : Plane
plane_z = plane (pt n0 n0 n0) (pt n1 n0 n0) (pt n0 n1 n0) (pt n0 n0 n1)

abbrev pub triangle : ℕ → ℕ → ℕ → Triangle
triangle i j k = record { a = i; b = j; c = k }
