-- Each edge of a body is run once each way.
use mathlib.Core.List.{List}
use Prim.Native.Nat.{ℕ}
use Rattle.lists.specs.Walks.{cyclic}
use Rattle.sums.specs.Sum.{sum, hit, pick}
use Rattle.bodies.specs.Fusing.{Facet, vertices_of, Run}

-- A run goes from a to d.
abbrev pub goes : ℕ → ℕ → Run → ℕ
goes a d r = pick (hit a r.tail) (hit d r.tip)

-- How often a facet runs an edge from a to d, and a list of facets.
abbrev pub runs_edge : List Facet → ℕ → ℕ → ℕ → ℕ
runs_edge fs i a d = sum (λ e. pick (hit a e.from) (hit d e.to)) (cyclic (vertices_of fs i))

abbrev pub ran : List Facet → ℕ → ℕ → List ℕ → ℕ
ran fs a d l = sum (λ i. runs_edge fs i a d) l
