-- How corners lie in three slices: their points, next points and faces. Definitions only.
use Rattle.std.specs.Prelude.{ℕ, zero, suc, ◌+◌, ◌≡◌, Bool, ◌&&◌, List, [], ◌∷◌, get_or, eqb, ltb}
use Rattle.lists.specs.Walks.{Pair}
use Rattle.topology.specs.Topology.{Corner, count, once, is_point, is_edge}

abbrev pub corner_at : List ℕ → List ℕ → List ℕ → ℕ → Corner
corner_at ps ns fs i = record { face = get_or fs i 0; point = get_or ps i 0; next = get_or ns i 0 }

-- n corners from the i-th on
unfoldable pub corners_at : List ℕ → List ℕ → List ℕ → ℕ → ℕ → List Corner
corners_at ps ns fs i zero = []
corners_at ps ns fs i (suc n) = corner_at ps ns fs i ∷ corners_at ps ns fs (i + 1) n

-- n pairs of two slices from the i-th on
unfoldable pub pairs_at : List ℕ → List ℕ → ℕ → ℕ → List (Pair ℕ)
pairs_at xs ys i zero = []
pairs_at xs ys i (suc n) = record { from = get_or xs i 0; to = get_or ys i 0 } ∷ pairs_at xs ys (i + 1) n

abbrev pub is_pair : ℕ → ℕ → Pair ℕ → Bool
is_pair a b p = eqb p.from a && eqb p.to b

-- how often the point x stands in face f, and the reverse of the edge from x to y among n corners
pub record Tallied (ps ns fs : List ℕ) (n f x y alone reverse : ℕ) : Type 0 where
  pub point : alone ≡ count (is_pair f x) 0 (pairs_at fs ps 0 n)
  pub back : reverse ≡ count (is_pair y x) 0 (pairs_at ps ns 0 n)

-- `fits` without the corner's own edge: `all_paired` of specs/Paired says that of all corners the two hold alike
unfoldable pub paired : ℕ → List Corner → Corner → Bool
paired m cs c = (ltb c.point m && once (is_point c.face c.point) cs) && once (is_edge c.next c.point) cs
