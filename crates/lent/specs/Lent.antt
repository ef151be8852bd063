-- How answers are told in numbers and at the front of a slice of any length. Definitions only.
use Rattle.std.specs.Prelude.{ℕ, Bool, true, false, cond, List, length, set, leb, ltb, Float, Ok, Err}
use Rattle.std.proofs.lemmas.List.Edits.{sets}
use Rattle.std.specs.Float.{binary64}
use Rattle.std.specs.Float.Ieee.{of_bits}
use Rattle.refusal.specs.Outcome.{Outcome}
use Rattle.interval.specs.declared.Interval.{Interval}
use Rattle.space.specs.declared.Point3.{Point3}
use Rattle.space.specs.declared.Plane.{Plane}
use Rattle.space.specs.Vector.{origin}
use Rattle.polygon.specs.Memory.{floats, point_at}
use Rattle.room.specs.Rooms.{frame_floats, frame_at}

abbrev pub yes : Bool → ℕ
yes true = 1
yes false = 0

-- the two ends, where there is room for them
unfoldable pub stored : List Float → Interval → List Float
stored s i = cond (leb 2 (length s)) (set (set s 0 i.lo) 1 i.hi) s

-- 01's number of a verdict, and what is stored only where it is fine
unfoldable pub number_by : Outcome Unit → ℕ
number_by (Ok tt) = 0
number_by (Err r) = r.number

unfoldable pub where_fine : {A : Type 0} → Outcome Unit → A → A → A
where_fine (Ok tt) a b = a
where_fine (Err r) a b = b

-- the point and the plane that a slice begins with; zeros where it is too short. A plane outside is its frame's 12 numbers.
unfoldable pub point_by : List Float → Point3
point_by s = cond (ltb (length s) 3) origin (point_at s 0)

unfoldable pub flat : Plane
flat = record { frame = record { origin = origin; x = origin; y = origin; z = origin }; mark = of_bits binary64 0 }

unfoldable pub plane_by : List Float → Plane
plane_by s = cond (ltb (length s) 12) flat (record { frame = frame_at s 0; mark = of_bits binary64 0 })

-- a point and a plane, where there is room for them
unfoldable pub point_stored : List Float → Point3 → List Float
point_stored s p = cond (leb 3 (length s)) (sets s 0 (floats p)) s

unfoldable pub plane_stored : List Float → Plane → List Float
plane_stored s w = cond (leb 12 (length s)) (sets s 0 (frame_floats w.frame)) s

-- the plane of an outcome, or one of zeros
unfoldable pub plane_in : Outcome Plane → Plane
plane_in (Ok w) = w
plane_in (Err r) = flat
