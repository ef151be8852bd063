-- The faces with their planes: frames in face order (5), and the sides of all points. Definitions only.
use Rattle.std.specs.Prelude.{ℕ, ◌+◌, ◌≤◌, Bool, List, [], ◌∷◌, length, get_or, ltb, Ok, Err}
use Rattle.refusal.specs.Outcome.{Outcome, unless, verdict_of}
use Rattle.space.specs.declared.Point3.{Point3}
use Rattle.space.specs.declared.Plane.{Plane}
use Rattle.space.specs.declared.Precision.{Precision}
use Rattle.space.specs.Vector.{origin}
use Rattle.space.specs.Frames.{face_plane}
use Rattle.room.specs.Rooms.{counts_at}
use Rattle.solids.specs.Apart.{first_of, each_in}
use Rattle.solids.specs.Sides.{face_sides}
use Rattle.solids.specs.Dents.{turns_if}

-- the point at a place; the places of a checked solid are in range
abbrev pub point_of : List Point3 → ℕ → Point3
point_of ps x = get_or ps x origin

-- "of its first three corners"; a face of fewer has no frame
unfoldable pub plane_for : Precision → List Point3 → List ℕ → Outcome Plane
plane_for t ps f = unless (ltb (length f) 3) 5 (face_plane t (point_of ps (get_or f 0 0)) (point_of ps (get_or f 1 0)) (point_of ps (get_or f 2 0)))

-- the faces of these numbers of corners, from a place on
unfoldable pub faces_at : List ℕ → ℕ → List ℕ → List (List ℕ)
faces_at l at [] = []
faces_at l at (n ∷ ns) = counts_at l at n ∷ faces_at l (at + n) ns

unfoldable pub framed_all : Precision → List Point3 → List (List ℕ) → Outcome Unit
framed_all t ps fs = each_in (λ f. verdict_of (plane_for t ps f)) fs

-- the corners of such faces lie within m places
unfoldable pub Placing : List ℕ → ℕ → ℕ → Type 0
Placing [] at m = at ≤ m
Placing (n ∷ ns) at m = Placing ns (at + n) m

-- one face, where it has a plane: its sides, then, where it is given, its turns
unfoldable pub sides_by : Bool → Precision → Outcome Plane → List ℕ → List Point3 → Outcome Unit
sides_by given t (Ok w) f ps = first_of (face_sides t w f ps) (turns_if given t w f ps)
sides_by given t (Err r) f ps = Err r

unfoldable pub sides_all : Bool → Precision → List Point3 → List (List ℕ) → Outcome Unit
sides_all given t ps fs = each_in (λ f. sides_by given t (plane_for t ps f) f ps) fs
