-- The bytes of answers, little-endian: solids by points and faces, and shells by facets. Definitions only.
use Rattle.std.specs.Prelude.{ℕ, List, ◌∷◌, ◌++◌, length}
use Rattle.space.specs.declared.Plane.{Plane}
use Rattle.space.specs.Shapes.{Face, Solid}
use Rattle.words.specs.Little.{digits}
use Rattle.job.specs.Written.{point_bytes}
use Rattle.writer.specs.Rows.{row}

-- "for each face u32 corners and a u32 index each"
unfoldable pub face_answer : List ℕ → List ℕ
face_answer f = digits 4 (length f) ++ row (digits 4) f

-- "for each cell u32 points, 3 f64 a point, u32 faces"
unfoldable pub solid_answer : Solid → List ℕ
solid_answer s = digits 4 (length s.points) ++ (row point_bytes s.points ++ (digits 4 (length s.faces) ++ row face_answer s.faces))

-- "12 f64 plane (origin, x, y, z)"
unfoldable pub plane_bytes : Plane → List ℕ
plane_bytes w = point_bytes w.frame.origin ++ (point_bytes w.frame.x ++ (point_bytes w.frame.y ++ point_bytes w.frame.z))

-- "for each facet 12 f64 plane, u32 corners, 3 f64 a corner"
unfoldable pub facet_answer : Face → List ℕ
facet_answer f = plane_bytes f.plane ++ (digits 4 (length f.points) ++ row point_bytes f.points)

-- "for each shell u8 (1 outward, 0 inward) and u32 facets"
unfoldable pub shell_answer : ℕ → List Face → List ℕ
shell_answer sense fs = sense ∷ digits 4 (length fs) ++ row facet_answer fs
