-- The arrangement of fusing: its vertices merged, its facets conforming, and the room: 12. Definitions only.
use Rattle.std.specs.Prelude.{ℕ, ◌+◌, List, [], ◌∷◌, ◌++◌, length, ltb, Ok}
use Rattle.refusal.specs.Outcome.{Outcome, then, unless, walk}
use Rattle.space.specs.declared.Point3.{Point3}
use Rattle.space.specs.declared.Precision.{Precision}
use Rattle.space.specs.Shapes.{Cell, Solid}
use Rattle.indexed.specs.Stored.{flat}
use Rattle.merge.specs.Merge.{merge}
use Rattle.conform.specs.Conform.{conform}

-- 01, "Room": m vertices more behind q others
abbrev pub fitted : ℕ → ℕ → ℕ → Outcome ℕ
fitted room q m = unless (ltb room (q + m)) 12 (Ok m)

-- "counted as each face, cell or facet is added"
unfoldable pub add_cycle : ℕ → List (List ℕ) → List ℕ → Outcome (List (List ℕ))
add_cycle room fs f = then (fitted room (length (flat fs)) (length f)) (λ _. Ok (fs ++ (f ∷ [])))

unfoldable pub conform_face : Precision → ℕ → List Point3 → List (List ℕ) → List ℕ → Outcome (List (List ℕ))
conform_face t room ps fs f = then (conform t ps f) (add_cycle room fs)

unfoldable pub conform_all : Precision → ℕ → List Point3 → List (List ℕ) → Outcome (List (List ℕ))
conform_all t room ps l = walk (conform_face t room ps) [] l

-- the points and the facets of an arrangement whose cells' faces are given one behind another
unfoldable pub arrange : Precision → ℕ → Cell → Outcome Solid
arrange t room c = then (merge t c) (λ s. then (conform_all t room s.points s.faces) (λ fs. Ok (record { points = s.points; faces = fs })))
