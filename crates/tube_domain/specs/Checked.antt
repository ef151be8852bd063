-- Of every solid that passes the check, and of two that do, what the tube says of a face's plane and a point has no hypothesis left but that the numbers given are values of the format, as every
-- f64 of a program is. Assumes nothing.
use Rattle.std.specs.Prelude.{◌≡◌, Ok}
use mathlib.Core.List.{List, [], ◌∷◌, map}
use Prim.Native.Nat.{ℕ}
use Rattle.space.specs.declared.Point3.{Point3}
use Rattle.space.specs.declared.Plane.{Plane}
use Rattle.space.specs.declared.Precision.{Precision}
use Rattle.space.specs.Shapes.{Face}
use Rattle.side.specs.Sides.{opposite_of}
use Rattle.polygon.specs.Members.{All}
use Rattle.tube.specs.Tube.{Tube}
use Rattle.tube_domain.specs.Size.{Size3}
use Rattle.tube_domain.specs.Normal.{Framed}

-- ---- lists
module _ {A : Type 0} (P : A → Type 0) where
  pub map_all : {B : Type 0} (g : B → A) → ((x : B) → P (g x)) → (l : List B) → All P (map g l)
  unfolding All
  map_all g h [] = tt
  map_all g h (x ∷ l) = (h x, map_all g h l)

-- ---- a solid that passes: its points, and the faces of its cell
-- a face of the domain
pub record Drawn (k : ℕ) (f : Face) : Type 0 where
  pub plane : Framed k f.plane
  pub points : All (Size3 k) f.points

-- ---- THE TUBE OF CHECKED SOLIDS
-- what the side of p says of space, against the plane w and against the plane turned round
pub record Certain (t : Precision) (w : Plane) (p : Point3) : Type 0 where
  pub own : Tube t w p
  pub turned : (v : Plane) → opposite_of t w ≡ Ok v → Tube t v p
