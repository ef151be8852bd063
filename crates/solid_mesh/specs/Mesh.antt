-- The mesh of one facet from bytes to bytes. Definitions only.
use Rattle.std.specs.Prelude.{ℕ, ◌/◌, Bool, ◌≡◌, List, ◌++◌, length, take, ltb, Ok}
use Rattle.refusal.specs.Outcome.{Outcome, then, unless}
use Rattle.space.specs.Shapes.{Face}
use Rattle.words.specs.Little.{digits}
use Rattle.job.specs.Bytes.{Facet}
use Rattle.job.specs.Read.{read_facet}
use Rattle.writer.specs.Rows.{row}
use Rattle.ended.specs.Ends.{told_of, written}
use Rattle.ears.specs.declared.Triangle.{Triangle}
use Rattle.mesh.specs.declared.Triples.{Triples}
use Rattle.mesh.specs.Mesh.{mesh_of}

-- "for each triangle three u32 corner places"
unfoldable pub triangle_answer : Triangle → List ℕ
triangle_answer w = digits 4 w.a ++ (digits 4 w.b ++ digits 4 w.c)

abbrev pub mesh_answer : List Triangle → List ℕ
mesh_answer ts = row triangle_answer ts

abbrev pub face_of : Facet → Face
face_of f = record { plane = f.plane; points = f.points }

-- 12 where the answer has less than 64 bytes a corner
abbrev pub is_small : ℕ → ℕ → Bool
is_small size n = ltb (size / 64) n

unfoldable pub mesh_bytes : Facet → Outcome (List ℕ)
mesh_bytes f = then (mesh_of f.precision (face_of f)) (λ ts. Ok (mesh_answer ts))

-- 1, then 12 for a small answer, then the mesh's own order
unfoldable pub mesh_facet : ℕ → Facet → Outcome (List ℕ)
mesh_facet size f = unless (is_small size (length f.points)) 12 (mesh_bytes f)

unfoldable pub mesh_call : ℕ → List ℕ → Outcome (List ℕ)
mesh_call size l = then (read_facet l) (mesh_facet size)

-- what is handed back: the number with how many bytes, and the answer memory
pub record Drawn (o : Outcome (List ℕ)) (r : ℕ) (s s' : List ℕ) : Type 0 where
  pub number : r ≡ told_of o
  pub bytes : s' ≡ written o s

-- the triangles of the code's answer
abbrev pub triangles_in : Triples → List Triangle
triangles_in t = take t.n t.at
