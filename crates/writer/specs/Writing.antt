-- The bytes of a job whose solids lie in slices. Definitions only.
use Rattle.std.specs.Prelude.{ℕ, ◌≤◌, List, [], ◌∷◌, map, length, Float}
use Rattle.space.specs.declared.Precision.{Precision}
use Rattle.space.specs.Shapes.{Solid}
use Rattle.words.specs.Little.{digits}
use Rattle.polygon.specs.Memory.{points_at}
use Rattle.room.specs.Rooms.{counts_at}
use Rattle.job.specs.declared.Operation.{Operation}
use Rattle.job.specs.Bytes.{Job, records_to, faces_to, solid_to, job_bytes}
use Rattle.job.specs.Written.{solid_bodies, job_bodies}
use Rattle.solids.specs.Frames.{faces_at, Placing}

-- the solid of m points and n faces that lies in three slices
abbrev pub solid_in : List Float → ℕ → List ℕ → List ℕ → ℕ → Solid
solid_in points m places counts n = record { points = points_at points 0 m; faces = faces_at places 0 (counts_at counts 0 n) }

-- the corners of the n faces lie within their slices
pub record Lent (places counts : List ℕ) (n : ℕ) : Type 0 where
  pub few : n ≤ length counts
  pub placing : Placing (counts_at counts 0 n) 0 (length places)

-- a face opens, and its corners follow
unfoldable pub face_record : List ℕ → List ℕ
face_record f = 3 ∷ records_to 4 (map (digits 2) f) []

-- faces and a solid, with nothing behind them
unfoldable pub faces_bytes : List (List ℕ) → List ℕ
faces_bytes fs = faces_to (map (map (digits 2)) fs) []

unfoldable pub solid_bytes : Solid → List ℕ
solid_bytes s = solid_to (solid_bodies s) []

abbrev as_job : Precision → Operation → Solid → Solid → Job
as_job t o a b = record { precision = t; first = a; second = b; operation = o }

-- "one 1; twice (points, then faces each with its corners, then 5); one 6; end"
unfoldable pub written_job : Precision → Operation → Solid → Solid → List ℕ
written_job t o a b = job_bytes (job_bodies (as_job t o a b))
