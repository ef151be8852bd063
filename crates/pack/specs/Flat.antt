-- A solid's numbers laid out flat, and the bytes of single records. Definitions only.
use Rattle.std.specs.Prelude.{ℕ, List, [], ◌∷◌, ◌++◌, map, length, drop, Float}
use Rattle.space.specs.declared.Point3.{Point3}
use Rattle.space.specs.declared.Precision.{Precision}
use Rattle.words.specs.Little.{little, digits}
use Rattle.job.specs.declared.Operation.{Operation}
use Rattle.job.specs.Records.{faces_after, bodies, face_bodies}
use Rattle.job.specs.Bytes.{point_of, operation_byte}
use Rattle.job.specs.Written.{precision_bytes, point_bytes}

unfoldable pub coordinates : Point3 → List Float
coordinates p = p.x ∷ p.y ∷ p.z ∷ []

-- three numbers a point
unfoldable pub flat : List Point3 → List Float
flat [] = []
flat (p ∷ ps) = coordinates p ++ flat ps

-- the corners of all faces, one face after the other
unfoldable pub joined : List (List ℕ) → List ℕ
joined [] = []
joined (f ∷ fs) = f ++ joined fs

-- n points from a place on, the corners of one face, and all faces that stand from a place on
unfoldable pub points_from : List ℕ → ℕ → ℕ → List Point3
points_from l at n = map point_of (bodies 24 n (drop at l))

unfoldable pub corners_from : List ℕ → ℕ → ℕ → List ℕ
corners_from l at n = map little (bodies 2 n (drop at l))

unfoldable pub faces_from : List ℕ → ℕ → List (List ℕ)
faces_from l at = map (map little) (face_bodies (length (faces_after 0 (drop at l))) (drop at l))

-- ---- the bytes of single records

unfoldable pub precision_record : Precision → List ℕ
precision_record p = 1 ∷ precision_bytes p

unfoldable pub point_record : Point3 → List ℕ
point_record p = 2 ∷ point_bytes p

unfoldable pub corner_record : ℕ → List ℕ
corner_record i = 4 ∷ digits 2 i

unfoldable pub operation_record : Operation → List ℕ
operation_record o = 6 ∷ operation_byte o ∷ []
