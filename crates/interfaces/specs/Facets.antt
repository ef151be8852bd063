-- The facets that lie in slices: the vertices of facet i are v[starts[i]..starts[i + 1]], its cell is owners[i].
use Rattle.std.specs.Prelude.{◌≡◌, ℕ, ◌<◌, length, get_or}
use Rattle.std.proofs.Math.Path.{refl, ap}
use Rattle.std.proofs.Common.{◌∙◌, arith}
use mathlib.Core.List.{List, [], ◌∷◌, map}
use Rattle.std.proofs.Math.ListN.{length-map}
use Rattle.sums.specs.Keys.{range, sorted}
use Rattle.sums.proofs.KeyLaws.{length_range, get_d_range, get_d_map_lt}
use Rattle.keys.specs.Rows.{row, rows}
use Rattle.bodies.specs.Fusing.{Facet, no_facet, cell_of, vertices_of, keys}

abbrev pub facet_at : List ℕ → List ℕ → List ℕ → ℕ → Facet
facet_at v starts owners i = record { cell = get_or owners i 0; vertices = row v starts i }

unfoldable pub facets_of : List ℕ → List ℕ → List ℕ → ℕ → List Facet
facets_of v starts owners f = map (facet_at v starts owners) (range f)

module _ (v starts owners : List ℕ) (f : ℕ) where
  pub many_facets : length (facets_of v starts owners f) ≡ f
  unfolding facets_of
  many_facets = length-map (range f) (facet_at v starts owners) ∙ length_range f

  facet_at_lem : (i : ℕ) → i < f → get_or (facets_of v starts owners f) i no_facet ≡ facet_at v starts owners i
  unfolding facets_of
  facet_at_lem i h = get_d_map_lt (facet_at v starts owners) (range f) 0 no_facet i (omega (arith, length_range f)) ∙ ap (facet_at v starts owners) (get_d_range f i h)

  pub cell_at : (i : ℕ) → i < f → cell_of (facets_of v starts owners f) i ≡ get_or owners i 0
  cell_at i h = ap (λ t. t.cell) (facet_at_lem i h)

  pub vertices_at : (i : ℕ) → i < f → vertices_of (facets_of v starts owners f) i ≡ row v starts i
  vertices_at i h = ap (λ t. t.vertices) (facet_at_lem i h)

  pub keys_are : keys (facets_of v starts owners f) ≡ map sorted (rows v starts f)
  unfolding facets_of rows
  keys_are = go (range f)
    where
      go : (l : List ℕ) → map (λ t. sorted t.vertices) (map (facet_at v starts owners) l) ≡ map sorted (map (row v starts) l)
      go [] = refl
      go (i ∷ l) = ap (λ m. sorted (row v starts i) ∷ m) (go l)
