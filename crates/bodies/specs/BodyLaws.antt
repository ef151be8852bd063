-- Two listed facets are in one body exactly when their cells connect through shared facets.
use Rattle.std.specs.Prelude.{◌↔◌, List, ℕ, ◌≤◌}
use mathlib.Mathlib.Logic.Relation.{ReflTransGenᴰ}
use Rattle.sums.specs.Sum.{sum, occ}
use Rattle.sums.specs.MeetLaws.{Meet}
use Rattle.bodies.specs.Fusing.{Facet, cell_of, keys, Bodies}
use Rattle.bodies.specs.ListLaws.{listed}

-- Two cells share a facet, and so on.
unfoldable pub Joined : List Facet → ℕ → ℕ → Type 0
Joined fs = ReflTransGenᴰ (Meet (keys fs) (cell_of fs))

-- In one body exactly when the cells connect through shared facets.
abbrev pub OneBody : List Facet → Bodies → List (List ℕ) → Type 0
OneBody fs bs b = (i j : ℕ) → 1 ≤ sum (occ i) b → 1 ≤ listed j bs → (1 ≤ sum (occ j) b) ↔ Joined fs (cell_of fs i) (cell_of fs j)
