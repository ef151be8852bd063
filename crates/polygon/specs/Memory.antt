-- How points lie in a slice of f64: three floats a point. Definitions only.
use Rattle.std.specs.Prelude.{Bool, ℕ, zero, suc, ◌+◌, ◌*◌, List, [], ◌∷◌, ◌++◌, get_or, Float}
use Rattle.std.specs.Float.{nan, binary64}
use Rattle.std.specs.Float.Ieee.{sub}
use Rattle.space.specs.declared.Point3.{Point3}
use Rattle.space.specs.Far.{is_far}

-- a point as it lies in memory, and a list of points
abbrev pub floats : Point3 → List Float
floats p = p.x ∷ p.y ∷ p.z ∷ []

abbrev pub floats_of : List Point3 → List Float
floats_of [] = []
floats_of (p ∷ l) = floats p ++ floats_of l

-- the point whose floats begin at a place
abbrev pub point_at : List Float → ℕ → Point3
point_at s i = record { x = get_or s i nan; y = get_or s (i + 1) nan; z = get_or s (i + 2) nan }

-- n points from a place on
unfoldable pub points_at : List Float → ℕ → ℕ → List Point3
points_at s i zero = []
points_at s i (suc n) = point_at s i ∷ points_at s (i + 3) n

-- the k-th point of a slice differs from q by g in a coordinate
unfoldable pub far_at : Float → Point3 → List Float → ℕ → Bool
far_at g q s k = is_far g (sub binary64 q.x (point_at s (3 * k)).x) (sub binary64 q.y (point_at s (3 * k)).y) (sub binary64 q.z (point_at s (3 * k)).z)
