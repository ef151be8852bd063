-- What fusing's answer says of space: of each body the outward shell has an exactly positive six-fold volume, every other a negative one.
use Rattle.std.specs.Prelude.{◌≡◌, ℕ}
use mathlib.Core.List.{List, ◌∷◌, map}
use Rattle.space.specs.declared.Point3.{Point3}
use Rattle.sums.specs.Sum.{Each}
use Rattle.tube.specs.Whole.{nought, Below}
use Rattle.tube_volume.specs.Sixfold.{sixfold}

-- ---- A BODY as the list of its shells, each a list of facets, whose corners `at` gives
pub record Enclosed (at : ℕ → List Point3) (b : List (List ℕ)) : Type 0 where
  pub outer : List ℕ
  pub inner : List (List ℕ)
  pub parts : b ≡ outer ∷ inner
  pub out : Below nought (sixfold (map at outer))
  pub inn : Each (λ g. Below (sixfold (map at g)) nought) inner
