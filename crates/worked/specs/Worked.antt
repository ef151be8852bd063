-- Document 01's worked cases hold of the definitions: by computation, step by step, each step over the value that the step before gives. Assumes nothing.
use Rattle.std.specs.Prelude.{◌≡◌, refl, ℕ, true, false, List, [], ◌∷◌, length, get_or, negsuc, Float, Ok, Err}
use Rattle.std.proofs.Common.{ap, ◌∙◌}
use Rattle.std.specs.Float.{fin}
use Rattle.refusal.specs.Outcome.{Outcome, then, each, refusal_of}
use Rattle.space.specs.declared.Plane.{Plane}
use Rattle.space.specs.declared.Point3.{Point3}
use Rattle.space.specs.Vector.{nowhere}
use Rattle.space.specs.Frames.{plane_of, face_plane}
use Rattle.space.specs.Shapes.{Face, Cell, Part, nothing, part, Solid}
use Rattle.side.specs.declared.Side.{Side}
use Rattle.side.specs.declared.Side.TheVariants.{Positive, Negative, Zero}
use Rattle.side.specs.Sides.{side_of}
use Rattle.clip.specs.Cuts.{clip}
use Rattle.indexed.specs.Indexed.{indexed}
use Rattle.ears.specs.declared.Triangle.{Triangle}
use Rattle.mesh.specs.Mesh.{mesh_of}
use Rattle.worked.specs.Open.{open_space, open_side, open_cut, open_indexed, open_mesh}
use Rattle.worked.specs.Shapes.{pt, n0, n1, n2, tol, face, plane_x, box_faces, cell_a, cut4, square, plane_z, triangle}

-- half of local, local, and twice local
abbrev pub half : Float
half = fin false 1 (negsuc 18)

abbrev pub whole : Float
whole = fin false 1 (negsuc 17)

abbrev pub double : Float
double = fin false 1 (negsuc 16)

-- ---- the steps, each by computation

plane_0 : plane_of tol (pt n0 n0 n0) (pt n1 n0 n0) (pt n0 n1 n0) ≡ Ok (plane_x n0)
unfolding open_space
plane_0 = refl

side_1 : side_of tol (plane_x n0) (pt n0 n0 n0) ≡ Ok Zero
unfolding open_side
side_1 = refl

side_1' : side_of tol (plane_x n0) (pt half n0 n0) ≡ Ok Zero
unfolding open_side
side_1' = refl

side_2 : side_of tol (plane_x n0) (pt whole n0 n0) ≡ Err (refusal_of 7)
unfolding open_side
side_2 = refl

side_3 : side_of tol (plane_x n0) (pt double n0 n0) ≡ Ok Positive
unfolding open_side
side_3 = refl

plane_1 : plane_of tol (pt n1 n0 n0) (pt n1 n0 n0) (pt n0 n1 n0) ≡ Ok (plane_x n1)
unfolding open_space
plane_1 = refl

plane_2 : plane_of tol (pt n2 n0 n0) (pt n1 n0 n0) (pt n0 n1 n0) ≡ Ok (plane_x n2)
unfolding open_space
plane_2 = refl

-- a face with the plane of its first three corners
unfoldable pub face_of : List Point3 → Outcome Face
face_of l = then (face_plane tol (get_or l 0 nowhere) (get_or l 1 nowhere) (get_or l 2 nowhere)) (λ w. Ok (record { plane = w; points = l }))

pub box_cell : each face_of [] box_faces ≡ Ok cell_a
unfolding open_space face_of
box_cell = refl

clip_4 : clip tol 720 (plane_x n1) cell_a ≡ Ok (part cut4)
unfolding open_cut
clip_4 = refl

clip_5 : clip tol 720 (plane_x n2) cell_a ≡ Ok (part cell_a)
unfolding open_cut
clip_5 = refl

clip_6 : clip tol 720 (plane_x n0) cell_a ≡ Ok nothing
unfolding open_cut
clip_6 = refl

-- how many faces and points a part has
pub record Sizes : Type 0 where
  pub faces : ℕ
  pub points : ℕ

abbrev pub sizes : Solid → Outcome Sizes
sizes s = Ok (record { faces = length s.faces; points = length s.points })

sizes_4 : then (indexed tol cut4) sizes ≡ Ok (record { faces = 6; points = 8 })
unfolding open_indexed
sizes_4 = refl

face_14 : face_of square ≡ Ok (face plane_z square)
unfolding open_space face_of
face_14 = refl

mesh_14 : mesh_of tol (face plane_z square) ≡ Ok (triangle 3 0 1 ∷ triangle 1 2 3 ∷ [])
unfolding open_mesh
mesh_14 = refl

-- ---- the cases, from the steps

-- What a case asks. The plane has its origin at (x, 0, 0), normal +x and hint +y; the box that is cut is 0..2, and the room is 720 corners.
pub data Case : Type 0 where
  -- the side of the point (d, 0, 0), the plane at x = 0
  side_at : Float → Outcome Side → Case
  -- the cut at x
  cut_at : Float → Part → Case
  -- the cut at x, and how many faces and points it has
  sizes_at : Float → Sizes → Case
  -- the triangles of the face with these corners
  mesh_at : List Point3 → List Triangle → Case

abbrev pub plane_at : Float → Outcome Plane
plane_at x = plane_of tol (pt x n0 n0) (pt n1 n0 n0) (pt n0 n1 n0)

abbrev pub cut_at_x : Float → Outcome Part
cut_at_x x = then (plane_at x) (λ w. then (each face_of [] box_faces) (λ c. clip tol 720 w c))

abbrev pub sizes_of : Part → Outcome Sizes
sizes_of nothing = Ok (record { faces = 0; points = 0 })
sizes_of (part c) = then (indexed tol c) sizes

abbrev pub Holds : Case → Type 0
Holds (side_at d r) = then (plane_at n0) (λ w. Ok (side_of tol w (pt d n0 n0))) ≡ Ok r
Holds (cut_at x r) = cut_at_x x ≡ Ok r
Holds (sizes_at x r) = then (cut_at_x x) sizes_of ≡ Ok r
Holds (mesh_at l r) = then (face_of l) (mesh_of tol) ≡ Ok r

abbrev pub cases : List Case
cases =
    side_at n0 (Ok Zero)
    ∷ side_at half (Ok Zero)
    ∷ side_at whole (Err (refusal_of 7))
    ∷ side_at double (Ok Positive)
    ∷ cut_at n1 (part cut4)
    ∷ sizes_at n1 (record { faces = 6; points = 8 })
    ∷ cut_at n2 (part cell_a)
    ∷ cut_at n0 nothing
    ∷ mesh_at square (triangle 3 0 1 ∷ triangle 1 2 3 ∷ [])
    ∷ []

abbrev pub All : List Case → Type 0
All [] = Unit {0}
All (c ∷ cs) = Holds c × All cs

cut_at_lem : (x : Float) (w : Plane) (r : Outcome Part) → plane_at x ≡ Ok w → clip tol 720 w cell_a ≡ r → cut_at_x x ≡ r
cut_at_lem x w r e f = rw (e, box_cell) f

p4 : cut_at_x n1 ≡ Ok (part cut4)
p4 = cut_at_lem n1 (plane_x n1) (Ok (part cut4)) plane_1 clip_4

sizes_of_4 : then (cut_at_x n1) sizes_of ≡ Ok (record { faces = 6; points = 8 })
sizes_of_4 = ap (λ o. then o sizes_of) p4 ∙ sizes_4

p14 : then (face_of square) (mesh_of tol) ≡ Ok (triangle 3 0 1 ∷ triangle 1 2 3 ∷ [])
p14 = ap (λ o. then o (mesh_of tol)) face_14 ∙ mesh_14

-- P1 (two), P2, P3, P4 (two), P5, P6, P14
pub all_hold : All cases
all_hold = (
  rw (plane_0, side_1),
  (
    rw (plane_0, side_1'),
    (
      rw (plane_0, side_2),
      (
        rw (plane_0, side_3),
        (
          p4,
          (
            sizes_of_4,
            (cut_at_lem n2 (plane_x n2) (Ok (part cell_a)) plane_2 clip_5, (cut_at_lem n0 (plane_x n0) (Ok nothing) plane_0 clip_6, (p14, tt))),
          ),
        ),
      ),
    ),
  ),
)
