-- The vertices of an arrangement, merged: 6, 13, 14. Definitions only.
use Rattle.std.specs.Prelude.{ℕ, suc, List, [], ◌∷◌, ◌++◌, length, replicate, ltb, Ok}
use Rattle.refusal.specs.Outcome.{Outcome, then, unless}
use Rattle.space.specs.declared.Precision.{Precision}
use Rattle.space.specs.Shapes.{Cell, Solid}
use Rattle.indexed.specs.declared.Pick.TheVariants.{Only}
use Rattle.indexed.specs.Indexed.{search_by, index_faces}

-- 01: more than 4,096 points
abbrev pub capped : ℕ → Outcome ℕ
capped n = unless (ltb 4096 n) 14 (Ok n)

-- the points of all faces, and the faces by the places of their corners; 14 after all are merged
unfoldable pub merge : Precision → Cell → Outcome Solid
merge t c = then (index_faces (search_by Only t) c) (λ s. then (capped (length s.points)) (λ _. Ok s))

-- the cell of each face, from the numbers of faces of the cells, of which the first is the i-th
unfoldable pub owners_from : ℕ → List ℕ → List ℕ
owners_from i [] = []
owners_from i (n ∷ ns) = replicate n i ++ owners_from (suc i) ns
