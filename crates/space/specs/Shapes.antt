-- Faces, cells and solids as lists of points. Definitions only.
use Rattle.std.specs.Prelude.{ℕ, ◌+◌, List, [], ◌∷◌, length}
use Rattle.space.specs.declared.Point3.{Point3}
use Rattle.space.specs.declared.Plane.{Plane}

pub record Face : Type 0 where
  pub plane : Plane
  pub points : List Point3

abbrev pub Cell : Type 0
Cell = List Face

-- what a cut leaves
pub data Part : Type 0 where
  nothing : Part
  part : Cell → Part

-- a solid as it is given: its points, and its faces by the places of their corners
pub record Solid : Type 0 where
  pub points : List Point3
  pub faces : List (List ℕ)

-- 01, "Room": n corners, and those of a cell or of a list of cells
unfoldable pub corners : ℕ → Cell → ℕ
corners n [] = n
corners n (f ∷ c) = corners (n + length f.points) c

unfoldable pub all_corners : ℕ → List Cell → ℕ
unfolding corners
all_corners n [] = n
all_corners n (c ∷ cs) = all_corners (n + corners 0 c) cs
