-- The fused bodies of a Boolean operation. Definitions only.
use Rattle.std.specs.Prelude.{List, [], ◌∷◌, map, ℕ, length, get_or, Ok}
use Rattle.std.specs.Float.{nan}
use Rattle.refusal.specs.Outcome.{Outcome, then}
use Rattle.space.specs.declared.Point3.{Point3}
use Rattle.space.specs.declared.Precision.{Precision}
use Rattle.space.specs.Vector.{nowhere}
use Rattle.space.specs.Shapes.{Face, Cell}
use Rattle.sums.specs.Keys.{range}
use Rattle.bodies.specs.Fusing.{Facet, Sense, Bodies, fuse}
use Rattle.volume.specs.Volume.{volume_sign}
use Rattle.arrangement.specs.Arrangements.{faces_of, Arrangement, arrange_cells}

-- what is read past the end of a list of faces
abbrev pub no_face : Face
no_face = record { plane = record { frame = record { origin = nowhere; x = nowhere; y = nowhere; z = nowhere }; mark = nan }; points = [] }

module _ (a : Arrangement) where
  -- facet i has the i-th cycle, and belongs to the i-th owner
  unfoldable pub facets_in : List Facet
  facets_in = map (λ i. record { cell = get_or a.owners i 0; vertices = get_or a.cycles i [] }) (range (length a.cycles))

  -- the corners of a facet: "its cycle of corner coordinates"
  unfoldable pub corners_in : ℕ → List Point3
  corners_in i = map (λ k. get_or a.points k nowhere) (get_or a.cycles i [])

  -- the certified sense of a shell's volume, or 21
  unfoldable pub volume_in : List ℕ → Outcome Sense
  volume_in g = volume_sign (map corners_in g)

  -- the bodies of n cells by their facets' places
  unfoldable pub fuse_in : ℕ → Outcome Bodies
  fuse_in n = fuse volume_in facets_in n

  -- "facets, each with its plane and its cycle of corner coordinates"; c has the faces of all cells
  unfoldable pub facet_in : Cell → ℕ → Face
  facet_in c i = record { plane = (get_or c i no_face).plane; points = corners_in i }

-- 000, `body_boolean`: the cells, arranged and fused; "bodies, their shells, their facets"
abbrev pub drawn_in : List Cell → Arrangement → Bodies → List (List (List Face))
drawn_in cs a bs = map (map (map (facet_in a (faces_of cs)))) bs

unfoldable pub fuse_cells : Precision → ℕ → List Cell → Outcome (List (List (List Face)))
fuse_cells t room cs = then (arrange_cells t room cs) (λ a. then (fuse_in a (length cs)) (λ bs. Ok (drawn_in cs a bs)))
