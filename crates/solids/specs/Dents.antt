-- Request 2/13: each three consecutive corners of an input face, round it: 33 unresolved, 4 Negative. Definitions only.
use Rattle.std.specs.Prelude.{ℕ, zero, suc, ◌+◌, ◌%◌, Bool, true, false, List, length, get_or, Ok, Err}
use Rattle.refusal.specs.Outcome.{Outcome, refusal_of}
use Rattle.interval.specs.Ends.{point_i}
use Rattle.space.specs.declared.Point3.{Point3}
use Rattle.space.specs.declared.Frame.{Frame}
use Rattle.space.specs.declared.Plane.{Plane}
use Rattle.space.specs.declared.Precision.{Precision}
use Rattle.space.specs.Vector.{origin}
use Rattle.space.specs.Frames.{local_of}
use Rattle.turns.specs.declared.Projected.{Projected}
use Rattle.turns.specs.declared.Turn.{Turn}
use Rattle.turns.specs.declared.Turn.TheVariants.{Positive, Negative, Zero}
use Rattle.turns.specs.Turns.{orientation_of}
use Rattle.solids.specs.Apart.{first_of}

-- "in the face's own local coordinates as points"
unfoldable pub flat_of : Frame → Point3 → Projected
flat_of f q = record { x = point_i (local_of f q).x; y = point_i (local_of f q).y }

-- the i-th corner of a face, counted round it, and the same in the coordinates of the plane w
abbrev pub corner_at : List ℕ → List Point3 → ℕ → Point3
corner_at f ps i = get_or ps (get_or f (i % length f) 0) origin

unfoldable pub flat_at : Plane → List ℕ → List Point3 → ℕ → Projected
flat_at w f ps i = flat_of w.frame (corner_at f ps i)

-- "each three consecutive corners … are classified by mesh orientation": those from the i-th on
abbrev pub turn_at : Precision → Plane → List ℕ → List Point3 → ℕ → Outcome Turn
turn_at t w f ps i = orientation_of t (flat_at w f ps i) (flat_at w f ps (i + 1)) (flat_at w f ps (i + 2))

-- "must not be Negative", 4; "33 unresolved"; "a straight run stays allowed"
unfoldable pub not_dented : Outcome Turn → Outcome Unit
not_dented (Ok Positive) = Ok tt
not_dented (Ok Negative) = Err (refusal_of 4)
not_dented (Ok Zero) = Ok tt
not_dented (Err r) = Err r

-- k of them, from the i-th on
unfoldable pub turns_from : Precision → Plane → List ℕ → List Point3 → ℕ → ℕ → Outcome Unit
turns_from t w f ps zero i = Ok tt
turns_from t w f ps (suc k) i = first_of (not_dented (turn_at t w f ps i)) (turns_from t w f ps k (i + 1))

-- one from each corner on: the last two and the first, and the last and the first two, are consecutive too
unfoldable pub face_turns : Precision → Plane → List ℕ → List Point3 → Outcome Unit
face_turns t w f ps = turns_from t w f ps (length f) 0

-- "in each input face"; "cells made by cutting aren't tested again"
unfoldable pub turns_if : Bool → Precision → Plane → List ℕ → List Point3 → Outcome Unit
turns_if true t w f ps = face_turns t w f ps
turns_if false t w f ps = Ok tt
