-- The check of a solid, and the checked solid as faces with planes. Definitions only.
use Rattle.std.specs.Prelude.{ℕ, Bool, true, false, not, ◌&&◌, List, [], ◌∷◌, map, length, Float, Ok, Err}
use Rattle.std.proofs.lemmas.List.Edits.{sets}
use Rattle.refusal.specs.Outcome.{Outcome, then, unless, each}
use Rattle.space.specs.declared.Point3.{Point3}
use Rattle.space.specs.declared.Precision.{Precision}
use Rattle.space.specs.Shapes.{Face, Cell, Solid}
use Rattle.polygon.specs.Memory.{points_at}
use Rattle.room.specs.Rooms.{counts_at, cell_floats}
use Rattle.solids.specs.Frames.{point_of, plane_for, faces_at}
use Rattle.solids.specs.Order.{fair_all, counted_all, shaped}
use Rattle.topology.specs.Topology.{sound}

-- a solid in memory: m points, and n faces whose corners' places stand one after another
abbrev pub solid_at : List Float → ℕ → List ℕ → List ℕ → ℕ → Solid
solid_at points m places counts n = record { points = points_at points 0 m; faces = faces_at places 0 (counts_at counts 0 n) }

-- the face of these corners, with the plane of the first three
unfoldable pub face_of : Precision → List Point3 → List ℕ → Outcome Face
face_of t ps f = then (plane_for t ps f) (λ w. Ok (record { plane = w; points = map (point_of ps) f }))

unfoldable pub cell_of : Precision → Solid → Outcome Cell
cell_of t s = each (face_of t s.points) [] s.faces

-- an answer where the verdict before it is fine
unfoldable pub after : {A : Type 0} → Outcome Unit → Outcome A → Outcome A
after (Ok tt) o = o
after (Err r) o = Err r

-- "Checked in this order: numbers (2); counts (3); … (4); frames (5); pairs of points (4, 6); for each face, each point (7, 4)", then the face's
-- turns (33, 4; request 2/13); counts and turns only of what is given
unfoldable pub check : Bool → Precision → Solid → Outcome Cell
check given t s =
    unless (not (fair_all s.points)) 2
    (unless (given && not (counted_all (length s.points) (length s.faces) (map length s.faces))) 3
    (unless (not (sound (length s.points) s.faces)) 4
    (after (shaped given t s.points s.faces) (cell_of t s))))

-- "An input solid"; and "cells of the cell Boolean, and the solid that an offset gives"
abbrev pub check_given : Precision → Solid → Outcome Cell
check_given t s = check true t s

abbrev pub check_built : Precision → Solid → Outcome Cell
check_built t s = check false t s

-- a slice, once a cell is stored at its front; a refusal leaves it as it is
unfoldable pub stored : Outcome Cell → List Float → List Float
stored (Ok c) l = sets l 0 (cell_floats c)
stored (Err r) l = l

-- the faces up to the first that has no plane; a checked solid has one for each
unfoldable pub kept : Outcome Face → Cell → Cell
kept (Ok f) c = f ∷ c
kept (Err r) c = []

unfoldable pub framed : Precision → List Point3 → List (List ℕ) → Cell
framed t ps [] = []
framed t ps (f ∷ fs) = kept (face_of t ps f) (framed t ps fs)
