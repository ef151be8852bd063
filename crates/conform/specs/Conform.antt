-- `conform` of 000: a facet's cycle with the vertices inside its edges: 15, 16, 17. Definitions only.
use Rattle.std.specs.Prelude.{ℕ, List, [], ◌∷◌, ◌++◌, Ok}
use Rattle.refusal.specs.Outcome.{Outcome, then, walk}
use Rattle.lists.specs.Walks.{Pair, cyclic}
use Rattle.space.specs.declared.Point3.{Point3}
use Rattle.space.specs.declared.Precision.{Precision}
use Rattle.inside.specs.Edges.{inside_edge}

-- the start of an edge, and the vertices inside it
unfoldable pub conform_edge : Precision → List Point3 → List ℕ → Pair ℕ → Outcome (List ℕ)
conform_edge t ps out e = then (inside_edge t ps e.from e.to) (λ ks. Ok (out ++ (e.from ∷ ks)))

unfoldable pub conform : Precision → List Point3 → List ℕ → Outcome (List ℕ)
conform t ps f = walk (conform_edge t ps) [] (cyclic f)
