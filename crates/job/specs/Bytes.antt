-- Which bytes are a job, and what they mean: the one definition that the reader is proved against (01, "Job file").
-- The records stand by their bodies: every body of the right length is one, so a job is told by the lengths alone.
use Rattle.std.specs.Prelude.{ℕ, ◌+◌, ◌≤◌, ◌≡◌, List, [], ◌∷◌, ◌++◌, map, length}
use Rattle.std.specs.Float.{binary64}
use Rattle.std.specs.Float.Ieee.{of_bits}
use Rattle.space.specs.declared.Point3.{Point3}
use Rattle.space.specs.declared.Precision.{Precision}
use Rattle.space.specs.declared.Plane.{Plane}
use Rattle.space.specs.Shapes.{Solid}
use Rattle.words.specs.Little.{little, float_at}
use Rattle.job.specs.declared.Operation.{Operation}
use Rattle.job.specs.declared.Operation.TheVariants.{Intersection, Difference, Union}

-- ---- the bytes

-- a solid and a job by the bodies of their records
pub record SolidBodies : Type 0 where
  pub points : List (List ℕ)
  pub faces : List (List (List ℕ))

pub record JobBodies : Type 0 where
  pub tolerances : List ℕ
  pub first : SolidBodies
  pub second : SolidBodies
  pub operation : Operation

-- records of one kind, and then s
unfoldable pub records_to : ℕ → List (List ℕ) → List ℕ → List ℕ
records_to k [] s = s
records_to k (b ∷ bs) s = k ∷ b ++ records_to k bs s

-- "faces each with its corners": 3, and 4 with an index for each corner
unfoldable pub faces_to : List (List (List ℕ)) → List ℕ → List ℕ
faces_to [] s = s
faces_to (c ∷ f) s = 3 ∷ records_to 4 c (faces_to f s)

-- "points, then faces each with its corners, then 5"
unfoldable pub solid_to : SolidBodies → List ℕ → List ℕ
solid_to w s = records_to 2 w.points (faces_to w.faces (5 ∷ s))

-- "intersection 1, difference 2, union 3"
unfoldable pub operation_byte : Operation → ℕ
operation_byte Intersection = 1
operation_byte Difference = 2
operation_byte Union = 3

-- "one 1; twice (points, then faces each with its corners, then 5); one 6; end"
unfoldable pub job_bytes : JobBodies → List ℕ
job_bytes w = 1 ∷ w.tolerances ++ solid_to w.first (solid_to w.second (6 ∷ operation_byte w.operation ∷ []))

-- ---- the lengths: "1 tolerances (linear, local, 16 bytes); 2 point (24); … 4 corner (2, index)"

pub data Sized (n : ℕ) : List (List ℕ) → Type 0 where
  none : Sized n []
  more : {b : List ℕ} {bs : List (List ℕ)} → length b ≡ n → Sized n bs → Sized n (b ∷ bs)

pub data AllSized (n : ℕ) : List (List (List ℕ)) → Type 0 where
  none : AllSized n []
  more : {c : List (List ℕ)} {f : List (List (List ℕ))} → Sized n c → AllSized n f → AllSized n (c ∷ f)

pub record SolidSized (w : SolidBodies) : Type 0 where
  pub points : Sized 24 w.points
  pub faces : AllSized 2 w.faces

pub record JobSized (w : JobBodies) : Type 0 where
  pub tolerances : length w.tolerances ≡ 16
  pub first : SolidSized w.first
  pub second : SolidSized w.second

-- ---- the meaning

unfoldable pub precision_of : List ℕ → Precision
precision_of b = record { linear = float_at b 0; local = float_at b 8 }

unfoldable pub point_of : List ℕ → Point3
point_of b = record { x = float_at b 0; y = float_at b 8; z = float_at b 16 }

unfoldable pub solid_of : SolidBodies → Solid
solid_of w = record { points = map point_of w.points; faces = map (map little) w.faces }

pub record Job : Type 0 where
  pub precision : Precision
  pub first : Solid
  pub second : Solid
  pub operation : Operation

unfoldable pub job_of : JobBodies → Job
job_of w = record { precision = precision_of w.tolerances; first = solid_of w.first; second = solid_of w.second; operation = w.operation }

-- the bytes are a job, and it means j; 1 for "job over 32,768 bytes"
pub record IsJob (l : List ℕ) (j : Job) : Type 0 where
  pub bodies : JobBodies
  pub sized : JobSized bodies
  pub bytes : l ≡ job_bytes bodies
  pub short : length l ≤ 32768
  pub meaning : job_of bodies ≡ j

-- ---- one solid alone: records 1, points, faces, 5

pub record Single : Type 0 where
  pub precision : Precision
  pub solid : Solid

pub record IsCell (l : List ℕ) (j : Single) : Type 0 where
  pub tolerances : List ℕ
  pub bodies : SolidBodies
  pub headed : length tolerances ≡ 16
  pub sized : SolidSized bodies
  pub bytes : l ≡ 1 ∷ tolerances ++ solid_to bodies []
  pub short : length l ≤ 32768
  pub meaning : record { precision = precision_of tolerances; solid = solid_of bodies } ≡ j

-- ---- one facet for the mesh call: record 1, its plane as one record of kind 9, its corners as points

pub record Facet : Type 0 where
  pub precision : Precision
  pub plane : Plane
  pub points : List Point3

unfoldable pub spot_of : List ℕ → ℕ → Point3
spot_of b i = record { x = float_at b i; y = float_at b (i + 8); z = float_at b (i + 16) }

-- origin, x, y, z
unfoldable pub plane_of : List ℕ → Plane
plane_of b = record { frame = record { origin = spot_of b 0; x = spot_of b 24; y = spot_of b 48; z = spot_of b 72 }; mark = of_bits binary64 0 }

pub record IsFacet (l : List ℕ) (j : Facet) : Type 0 where
  pub tolerances : List ℕ
  pub plane : List ℕ
  pub bodies : List (List ℕ)
  pub headed : length tolerances ≡ 16
  pub framed : length plane ≡ 96
  pub sized : Sized 24 bodies
  pub bytes : l ≡ 1 ∷ tolerances ++ (9 ∷ plane ++ records_to 2 bodies [])
  pub short : length l ≤ 32768
  pub meaning : record { precision = precision_of tolerances; plane = plane_of plane; points = map point_of bodies } ≡ j
