-- What the tube means: the side of a point, as a fact about space.
use Rattle.std.specs.Prelude.{◌≡◌, T, Ok}
use Rattle.float.specs.Float.{finite}
use Rattle.float.proofs.Laws.{Held}
use Rattle.space.specs.declared.Point3.{Point3}
use Rattle.space.specs.declared.Plane.{Plane}
use Rattle.space.specs.declared.Precision.{Precision}
use Rattle.side.specs.declared.Side.TheVariants.{Positive, Negative, Zero}
use Rattle.side.specs.Sides.{side_of}
use Rattle.tube.specs.Distance.{Outside, Inside, On}

-- ---- THE TUBE: what each answer of the side test says of the exact distance (specs/Distance), the dot with the normal as
-- it is stored, whose length is only nearly one. A refused point (7) is said nothing of.
pub record Tube (t : Precision) (w : Plane) (p : Point3) : Type 0 where
  -- farther than local on the outside
  pub positive : side_of t w p ≡ Ok Positive → Outside t.local w p
  -- farther than local on the inside
  pub negative : side_of t w p ≡ Ok Negative → Inside t.local w p
  -- within local of the plane
  pub zero : side_of t w p ≡ Ok Zero → On t.local w p

-- what is given: local is finite, and all are values of the format, as every f64 of a program is
pub record Held3 (p : Point3) : Type 0 where
  pub x_held : Held p.x
  pub y_held : Held p.y
  pub z_held : Held p.z

pub record Given (t : Precision) (w : Plane) (p : Point3) : Type 0 where
  pub local_held : Held t.local
  pub local_finite : T (finite t.local)
  pub point : Held3 p
  pub from : Held3 w.frame.origin
  pub normal : Held3 w.frame.z
