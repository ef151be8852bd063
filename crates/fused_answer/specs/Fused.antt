-- The bytes of fused bodies, little-endian. Definitions only.
use Rattle.std.specs.Prelude.{List, [], ◌∷◌, ◌++◌, map, ℕ, ◌+◌, ◌*◌, ◌≤◌, ◌<◌, Float, length, get_or}
use Rattle.space.specs.Shapes.{Face}
use Rattle.polygon.specs.Memory.{point_at}
use Rattle.room.specs.Rooms.{plane_at}
use Rattle.words.specs.Little.{digits}
use Rattle.job.specs.Written.{point_bytes}
use Rattle.keys.specs.Rows as K
use Rattle.keys.specs.Rows.{Starts}
use Rattle.volume.specs.Shell.{Points}
use Rattle.answer.specs.Answers.{facet_answer, shell_answer}

-- "3 f64 a corner": a corner is a merged point
unfoldable pub corner_bytes : List Float → ℕ → List ℕ
corner_bytes ps k = point_bytes (point_at ps (3 * k))

-- Facet i of an arrangement: its plane stands in s at spots[i], its corners are the points of its cycle.
unfoldable pub facet_of : List Float → List ℕ → List Float → List ℕ → List ℕ → ℕ → Face
facet_of s spots ps v starts i = record { plane = plane_at s (get_or spots i 0); points = map (λ k. point_at ps (3 * k)) (K.row v starts i) }

-- Each of f facets has its plane, its cycle and its points.
pub record Drawn (s : List Float) (spots : List ℕ) (ps : List Float) (v starts : List ℕ) (f : ℕ) : Type 0 where
  pub fine : Starts v starts f
  pub points : Points ps v
  pub many : f ≤ length spots
  pub planes : (i : ℕ) → i < f → get_or spots i 0 + 13 ≤ length s

module _ (s : List Float) (spots : List ℕ) (ps : List Float) (v starts : List ℕ) where
  unfoldable pub facet_bytes : ℕ → List ℕ
  facet_bytes i = facet_answer (facet_of s spots ps v starts i)

  -- "for each shell u8 (1 outward, 0 inward) and u32 facets"
  unfoldable pub shell_bytes : ℕ → List ℕ → List ℕ
  shell_bytes sense g = shell_answer sense (map (facet_of s spots ps v starts) g)

  -- the outward shell first, the others inward
  unfoldable pub shells_bytes : ℕ → List (List ℕ) → List ℕ
  shells_bytes sense [] = []
  shells_bytes sense (g ∷ gs) = shell_bytes sense g ++ shells_bytes 0 gs

  -- "for each body u32 shells"
  unfoldable pub body_bytes : List (List ℕ) → List ℕ
  body_bytes b = digits 4 (length b) ++ shells_bytes 1 b
