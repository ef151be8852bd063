-- How a list of at most 128 corners lies in a Polygon. Definitions only.
use Rattle.std.specs.Prelude.{List, [], ◌++◌, ◌+◌, ◌-◌, length, take, set, replicate, Ok, Err}
use Rattle.refusal.specs.Outcome.{Outcome}
use Rattle.space.specs.declared.Point3.{Point3}
use Rattle.space.specs.Vector.{origin}
use Rattle.polygon.specs.declared.Polygon.{Polygon}

-- the corners of a polygon
abbrev pub corners_of : Polygon → List Point3
corners_of p = take p.n p.at

-- the corners, and the origin in the places past them
abbrev pub padded : List Point3 → List Point3
padded l = l ++ replicate (128 - length l) origin

abbrev pub polygon : List Point3 → Polygon
polygon l = record { at = padded l; n = length l }

-- a polygon with one corner more
abbrev pub pushed : Polygon → Point3 → Polygon
pushed p q = record { at = set p.at p.n q; n = p.n + 1 }

-- what the code answers for an outcome of at most 128 corners
unfoldable pub made : Outcome (List Point3) → Outcome Polygon
made (Ok l) = Ok (polygon l)
made (Err r) = Err r
