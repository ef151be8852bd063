-- `offset_distances` and `offset`: 2; 6; 24, 25, 26 point by point; 5 face by face; 7 and 27. Definitions only.
use Rattle.std.specs.Prelude.{ℕ, suc, true, false, not, List, [], ◌∷◌, ◌++◌, map, length, replicate, Float, Ok}
use Rattle.float.specs.Float.{finite}
use Rattle.refusal.specs.Outcome.{Outcome, then, unless, each, heard}
use Rattle.lists.specs.Walks.{all}
use Rattle.space.specs.declared.Point3.{Point3}
use Rattle.space.specs.declared.Precision.{Precision}
use Rattle.space.specs.Shapes.{Face, Cell}
use Rattle.indexed.specs.Indexed.{indexed}
use Rattle.solids.specs.Sides.{has}
use Rattle.solids.specs.Frames.{point_of}
use Rattle.bounds.specs.Bounds.{against}
use Rattle.shift.specs.declared.Push.{Push}
use Rattle.shift.specs.Shifts.{push_of, meeting, push_if, moved_at, moved_plane}

-- a face of a cell with the places of its corners, and how far it is pushed
pub record Moving : Type 0 where
  pub face : Face
  pub places : List ℕ
  pub by : Float

unfoldable pub moving : Cell → List (List ℕ) → List Float → List Moving
moving [] is ds = []
moving (f ∷ fs) [] ds = []
moving (f ∷ fs) (i ∷ is) [] = []
moving (f ∷ fs) (i ∷ is) (d ∷ ds) = record { face = f; places = i; by = d } ∷ moving fs is ds

-- the faces that meet the point of place x, in their order
unfoldable pub pushes : ℕ → List Push → List Moving → List Push
pushes x l [] = l
pushes x l (m ∷ ms) = pushes x (push_if (has x false m.places) l (push_of m.face.plane m.by)) ms

-- 24, 25, 26: each point in `indexed` order, from place x on
unfoldable pub move_points : Precision → List Moving → ℕ → List Point3 → List Point3 → Outcome (List Point3)
move_points t ms x qs [] = Ok qs
move_points t ms x qs (p ∷ ps) = then (moved_at t p (meeting (pushes x [] ms))) (λ q. move_points t ms (suc x) (qs ++ (q ∷ [])) ps)

-- 5: a face on its moved plane
unfoldable pub move_face : Precision → List Point3 → Moving → Outcome Face
move_face t qs m = then (moved_plane t m.face.plane m.by) (λ w. Ok (record { plane = w; points = map (point_of qs) m.places }))

-- 7, 27: no corner is Positive against any moved plane
unfoldable pub not_crossed : Precision → Cell → Outcome Cell
not_crossed t c = heard (against false t c c) c

unfoldable pub move_all : Precision → List Moving → List Point3 → Outcome Cell
move_all t ms ps =
    then (move_points t ms 0 [] ps) (λ qs.
    then (each (move_face t qs) [] ms) (not_crossed t))

-- a distance for each face; 2: "an offset distance is finite"
unfoldable pub offset_distances : Precision → List Float → Cell → Outcome Cell
offset_distances t ds c =
    unless (not (all finite true ds)) 2 (
    then (indexed t c) (λ s. move_all t (moving c s.faces ds) s.points))

unfoldable pub offset_cell : Precision → Float → Cell → Outcome Cell
offset_cell t d c = offset_distances t (replicate (length c) d) c
