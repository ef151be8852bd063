-- The mesh of one facet: 12, 2, 34, 3, 34, 33 and 30, 33, 31, 32, in this order. Definitions only.
use Rattle.std.specs.Prelude.{ℕ, zero, suc, ◌+◌, ◌-◌, Bool, true, not, ◌&&◌, List, [], ◌∷◌, ◌++◌, length, get_or, set, replicate, ltb, Float, Ok, Err}
use Rattle.refusal.specs.Outcome.{Outcome, refuse, then, unless, each}
use Rattle.lists.specs.Walks.{all}
use Rattle.space.specs.declared.Precision.{Precision}
use Rattle.space.specs.declared.Frame.{Frame}
use Rattle.space.specs.declared.Plane.{Plane}
use Rattle.space.specs.Vector.{fair_precision, finite_point}
use Rattle.space.specs.Shapes.{Face}
use Rattle.turns.specs.declared.Projected.{Projected}
use Rattle.turns.specs.declared.Turn.{Turn}
use Rattle.turns.specs.declared.Turn.TheVariants as T
use Rattle.outline.specs.Project.{basis_of, projected_of, facet_of}
use Rattle.simple.specs.Simple.{simple_of}
use Rattle.ears.specs.declared.Triangle.{Triangle}
use Rattle.ears.specs.declared.Found.{Found}
use Rattle.ears.specs.declared.Found.TheVariants as F
use Rattle.ears.specs.Places.{up_from, without}
use Rattle.ears.specs.Ears.{turn_at, scan_of}
use Rattle.mesh.specs.declared.Triples.{Triples}

-- ---- taking corners off

-- the corners left, and the triangles so far
pub record Clipping : Type 0 where
  pub left : List ℕ
  pub ears : List Triangle

-- a straight corner is passed over, an ear gives its triangle; 31: "no ear"
unfoldable pub clip_by : Outcome Found → Clipping → Outcome Clipping
clip_by (Ok (F.Ear i t)) s = Ok (record { left = without i s.left; ears = s.ears ++ (t ∷ []) })
clip_by (Ok (F.Straight i)) s = Ok (record { left = without i s.left; ears = s.ears })
clip_by (Ok F.Nothing) s = refuse 31
clip_by (Err r) s = Err r

unfoldable pub clip_one : Precision → List Projected → Clipping → Outcome Clipping
clip_one p ps s = clip_by (scan_of p ps s.left) s

-- k corners, one at a time
unfoldable pub clip_from : ℕ → Precision → List Projected → Clipping → Outcome Clipping
clip_from zero p ps s = Ok s
clip_from (suc k) p ps s = then (clip_one p ps s) (clip_from k p ps)

-- 000: while more than three are left
unfoldable pub clip_all : Precision → List Projected → Clipping → Outcome Clipping
clip_all p ps s = clip_from (length s.left - 3) p ps s

-- ---- the last triangle

abbrev pub first_three : List ℕ → Triangle
first_three l = record { a = get_or l 0 0; b = get_or l 1 0; c = get_or l 2 0 }

-- 32: "last triangle"
unfoldable pub end_by : Outcome Turn → List Triangle → Triangle → Outcome (List Triangle)
end_by (Ok T.Positive) l w = Ok (l ++ (w ∷ []))
end_by (Ok T.Negative) l w = refuse 32
end_by (Ok T.Zero) l w = refuse 32
end_by (Err r) l w = Err r

unfoldable pub end_of : Precision → List Projected → Clipping → Outcome (List Triangle)
end_of p ps s = end_by (turn_at p ps (first_three s.left)) s.ears (first_three s.left)

-- ---- the triangles of an outline

abbrev pub begun : ℕ → Clipping
begun n = record { left = up_from 0 n; ears = [] }

unfoldable pub clipped_of : Precision → List Projected → Outcome (List Triangle)
clipped_of p ps = then (clip_all p ps (begun (length ps))) (end_of p ps)

-- the rest, where a verdict is fine
unfoldable pub given : {A : Type 0} → Outcome Unit → Outcome A → Outcome A
given (Ok tt) o = o
given (Err r) o = Err r

unfoldable pub triangles_of : Precision → List Projected → Outcome (List Triangle)
triangles_of p ps = given (simple_of p ps) (clipped_of p ps)

-- ---- the mesh of a facet

abbrev pub finite_frame : Frame → Bool
finite_frame f = finite_point f.origin && (finite_point f.x && (finite_point f.y && finite_point f.z))

-- 2: "tolerances or a number not finite"
unfoldable pub fair_facet : Precision → Face → Bool
fair_facet p f = fair_precision p && (finite_frame f.plane.frame && all finite_point true f.points)

-- "fewer than 3 corners being 3 directly after the handedness test"
unfoldable pub enough_on : Precision → Face → Outcome (List Triangle)
enough_on p f = unless (ltb (length f.points) 3) 3 (then (each (projected_of f.plane) [] f.points) (triangles_of p))

unfoldable pub mesh_on : Precision → Face → Outcome (List Triangle)
mesh_on p f = given (basis_of f.plane) (enough_on p f)

-- "The mesh call takes one facet, always expecting Positive: 12 above 128 corners, 2 for tolerances or a number not finite, then 000's order"
unfoldable pub mesh_of : Precision → Face → Outcome (List Triangle)
mesh_of p f = unless (ltb 128 (length f.points)) 12 (unless (not (fair_facet p f)) 2 (mesh_on p f))

-- the facet of a plane and of corners as they lie in memory
abbrev pub facet : Plane → List Float → Face
facet w s = record { plane = w; points = facet_of s }

-- ---- how at most 126 triangles lie in the answer

abbrev pub blank : Triangle
blank = record { a = 0; b = 0; c = 0 }

abbrev pub padded : List Triangle → List Triangle
padded l = l ++ replicate (126 - length l) blank

abbrev pub triples : List Triangle → Triples
triples l = record { at = padded l; n = length l }

-- "it answers triples of corner places"
unfoldable pub meshed : Outcome (List Triangle) → Outcome Triples
meshed (Ok l) = Ok (triples l)
meshed (Err r) = Err r

-- the triples with one more, and the last triangle before it is known to be Positive
abbrev pub pushed : Triples → Triangle → Triples
pushed t w = record { at = set t.at t.n w; n = t.n + 1 }

unfoldable pub last_by : Outcome Turn → Triples → Triangle → Outcome Triples
last_by (Ok T.Positive) t w = Ok (pushed t w)
last_by (Ok T.Negative) t w = refuse 32
last_by (Ok T.Zero) t w = refuse 32
last_by (Err r) t w = Err r

unfoldable pub last_in : Precision → List Projected → List ℕ → Triples → Outcome Triples
last_in p ps l t = last_by (turn_at p ps (first_three l)) t (first_three l)
