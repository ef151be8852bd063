-- What a call from outside has to lend to the mesh, and how its answer is told: 64 where a slice is too short. Definitions only.
use Rattle.std.specs.Prelude.{ℕ, ◌≤◌, Bool, not, ◌&&◌, ◌≡◌, List, [], ◌∷◌, length, take, set, leb, Float, Ok, Err}
use Rattle.std.proofs.lemmas.List.Edits.{sets}
use Rattle.refusal.specs.Outcome.{Outcome, unless, number_of}
use Rattle.space.specs.declared.Plane.{Plane}
use Rattle.space.specs.declared.Precision.{Precision}
use Rattle.ears.specs.declared.Triangle.{Triangle}
use Rattle.mesh.specs.declared.Triples.{Triples}
use Rattle.mesh.specs.Mesh.{facet, mesh_of}

-- the triangles of the code's answer
abbrev pub triangles_in : Triples → List Triangle
triangles_in t = take t.n t.at

-- three places for each triangle
unfoldable pub places : List Triangle → List ℕ
places [] = []
places (w ∷ l) = w.a ∷ w.b ∷ w.c ∷ places l

unfoldable pub places_told : List ℕ → Outcome (List Triangle) → List ℕ
places_told d (Ok l) = sets d 0 (places l)
places_told d (Err r) = d

unfoldable pub count_told : List ℕ → Outcome (List Triangle) → List ℕ
count_told n (Ok l) = set n 0 (length l)
count_told n (Err r) = n

-- the same by the code's answer, which has at most 126 triangles
abbrev pub Few : Outcome Triples → Type 0
Few (Ok t) = t.n ≤ 126
Few (Err r) = Unit {0}

unfoldable pub places_by : Outcome Triples → List ℕ → List ℕ
places_by (Ok t) d = sets d 0 (places (triangles_in t))
places_by (Err r) d = d

unfoldable pub count_by : Outcome Triples → List ℕ → List ℕ
count_by (Ok t) n = set n 0 t.n
count_by (Err r) n = n

-- the triangles, and how many there are; at a refusal both slices stay as they were
pub record Drawn (o : Outcome (List Triangle)) (r : ℕ) (d n d' n' : List ℕ) : Type 0 where
  pub number : r ≡ number_of o
  pub drawn : d' ≡ places_told d o
  pub count : n' ≡ count_told n o

-- there is a plane, and room for 126 triangles and for their number
unfoldable pub mesh_fits : ℕ → ℕ → ℕ → Bool
mesh_fits plane d n = leb 12 plane && (leb 378 d && leb 1 n)

unfoldable pub mesh_lent : Bool → Precision → Plane → List Float → Outcome (List Triangle)
mesh_lent fits p w s = unless (not fits) 64 (mesh_of p (facet w s))
