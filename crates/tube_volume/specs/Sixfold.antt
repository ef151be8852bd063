-- The six-fold volume of a shell in exact arithmetic with its corners as they are stored, in units of 2 ^ -3222. Definitions only.
-- Each facet is a fan of triangles from its first corner, and each triangle spans a tetrahedron with the shell's first corner.
use Rattle.std.specs.Prelude.{List, [], ◌∷◌, map}
use Rattle.space.specs.declared.Point3.{Point3}
use Rattle.volume.specs.Volume.{first_corner}
use Rattle.tube.specs.Whole.{Whole, nought, units, sum, difference, product}

-- q - o, in units of 2 ^ -1074
pub record Arm : Type 0 where
  pub x : Whole
  pub y : Whole
  pub z : Whole

abbrev pub arm : Point3 → Point3 → Arm
arm o q = record {
  x = difference (units q.x) (units o.x);
  y = difference (units q.y) (units o.y);
  z = difference (units q.z) (units o.z);
}

-- p·q - r·s
abbrev pub minor : Whole → Whole → Whole → Whole → Whole
minor p q r s = difference (product p q) (product r s)

-- a dot (b cross c): six times the volume of a tetrahedron, above 0 where a, b, c turn counter-clockwise seen from outside
abbrev pub determinant : Arm → Arm → Arm → Whole
determinant a b c =
    sum (sum (product a.x (minor b.y c.z b.z c.y)) (product a.y (minor b.z c.x b.x c.z)))
    (product a.z (minor b.x c.y b.y c.x))

-- the triangles of a fan from a; of a facet; of all facets
unfoldable pub fan_volume : Arm → List Arm → Whole
fan_volume a [] = nought
fan_volume a (b ∷ []) = nought
fan_volume a (b ∷ c ∷ l) = sum (determinant a b c) (fan_volume a (c ∷ l))

unfoldable pub facet_volume : List Arm → Whole
facet_volume [] = nought
facet_volume (a ∷ l) = fan_volume a l

unfoldable pub shell_volume : Point3 → List (List Point3) → Whole
shell_volume o [] = nought
shell_volume o (f ∷ l) = sum (facet_volume (map (arm o) f)) (shell_volume o l)

unfoldable pub sixfold : List (List Point3) → Whole
sixfold l = shell_volume (first_corner l) l
