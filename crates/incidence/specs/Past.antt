-- A point whose rounded projection alone shows that it is not inside an edge. Definitions only.
use Rattle.std.specs.Prelude.{◌≡◌, Bool, ◌||◌, Float}
use Rattle.std.specs.Float.{binary64}
use Rattle.std.specs.Float.Ieee.{le, sub}
use Rattle.space.specs.declared.Point3.{Point3}
use Rattle.space.specs.declared.Precision.{Precision}
use Rattle.space.specs.Vector.{sub_v, dot_v}
use Rattle.incidence.specs.declared.Line.{Line}
use Rattle.incidence.specs.Incidence.{line_of}

-- the rounded projection of q on an edge d from a on is not beyond the margin m from its start, or from its end, l being its squared length
unfoldable pub is_past : Float → Float → Point3 → Point3 → Point3 → Bool
is_past m l a d q = le (dot_v (sub_v q a) d) m || le (sub binary64 l (dot_v (sub_v q a) d)) m

-- the line is that of an edge from a to b
pub record Drawn (e : Line) (a b : Point3) : Type 0 where
  pub by : Precision
  pub is : e ≡ line_of by a b
