-- The bodies of an answer as they lie in slices: all facets in order, how many each shell has, how many shells each body has.
use Rattle.std.specs.Prelude.{◌≡◌, List, [], ◌∷◌, ◌++◌, map, ℕ, length, Ok, Err}
use Rattle.refusal.specs.Outcome.{Outcome}
use Rattle.groups.specs.Groups.{joined}
use Rattle.bodies.specs.Fusing.{Bodies}
use Rattle.listing.specs.Appended.{appended}
use Rattle.assembly.specs.declared.Fused.{Fused}

-- all shells, body by body
unfoldable pub shells_in : Bodies → List (List ℕ)
shells_in [] = []
shells_in (b ∷ bs) = b ++ shells_in bs

-- The result and what the three slices hold: x the facets, s the shells' sizes, b the bodies' counts of shells. 01: a refusal hands back its number and no bodies.
unfoldable pub Laid : Outcome Bodies → List ℕ → List ℕ → List ℕ → List ℕ → List ℕ → List ℕ → Outcome Fused → Type 0
Laid (Ok bs) x₀ s₀ b₀ x s b r =
    (r ≡ Ok (record { bodies = length bs; shells = length (shells_in bs); facets = length (joined (shells_in bs)) }))
    × (x ≡ appended x₀ 0 (joined (shells_in bs)))
    × (s ≡ appended s₀ 0 (map length (shells_in bs)))
    × (b ≡ appended b₀ 0 (map length bs))
Laid (Err e) x₀ s₀ b₀ x s b r = r ≡ Err e
