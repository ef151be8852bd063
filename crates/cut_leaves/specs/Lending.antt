-- What a call from outside has to lend, and how its answer is told: 64 where a slice is too short. Definitions only.
use Rattle.std.specs.Prelude.{ℕ, ◌+◌, ◌*◌, ◌/◌, Bool, true, false, not, ◌&&◌, ◌≡◌, List, [], ◌∷◌, length, set, leb, Float, Ok, Err, Some, None}
use Rattle.std.proofs.lemmas.List.Edits.{sets}
use Rattle.refusal.specs.Outcome.{Outcome, unless, number_of}
use Rattle.space.specs.declared.Point3.{Point3}
use Rattle.space.specs.declared.Plane.{Plane}
use Rattle.space.specs.declared.Precision.{Precision}
use Rattle.space.specs.Shapes.{Cell, Part, nothing, part, corners}
use Rattle.polygon.specs.declared.Polygon.{Polygon}
use Rattle.polygon.specs.Polygons.{corners_of}
use Rattle.polygon.specs.Memory.{floats_of, points_at}
use Rattle.polygon.specs.Unique.{unique}
use Rattle.room.specs.Rooms.{cell_floats, cell_counts, counts_at}
use Rattle.hull.specs.Hull.{cap_of}
use Rattle.clip.specs.Clips.{Clipped}

-- ---- polygons

unfoldable pub corners_told : List Float → Outcome (List Point3) → List Float
corners_told d (Ok l) = sets d 0 (floats_of l)
corners_told d (Err r) = d

unfoldable pub count_told : List ℕ → Outcome (List Point3) → List ℕ
count_told n (Ok l) = set n 0 (length l)
count_told n (Err r) = n

-- the same of the polygon that was made
unfoldable pub corners_put : List Float → Outcome Polygon → List Float
corners_put d (Ok p) = sets d 0 (floats_of (corners_of p))
corners_put d (Err r) = d

unfoldable pub count_put : List ℕ → Outcome Polygon → List ℕ
count_put n (Ok p) = set n 0 p.n
count_put n (Err r) = n

-- the corners, and how many there are; at a refusal both slices stay as they were
pub record Told (o : Outcome (List Point3)) (r : ℕ) (d : List Float) (n : List ℕ) (d' : List Float) (n' : List ℕ) : Type 0 where
  pub number : r ≡ number_of o
  pub corners : d' ≡ corners_told d o
  pub count : n' ≡ count_told n o

-- there is room for 128 corners and for their number
abbrev pub roomy : ℕ → ℕ → Bool
roomy d n = leb 384 d && leb 1 n

-- at most 128 points
unfoldable pub unique_fits : ℕ → ℕ → ℕ → Bool
unique_fits s d n = leb (s / 3) 128 && roomy d n

unfoldable pub unique_lent : Precision → List Float → ℕ → ℕ → Outcome (List Point3)
unique_lent t s d n = unless (not (unique_fits (length s) d n)) 64 (unique t (points_at s 0 (length s / 3)))

unfoldable pub hull_fits : ℕ → ℕ → ℕ → ℕ → ℕ → ℕ → ℕ → Bool
hull_fits points cap flat order chain d n =
    (leb points (cap / 3) && leb points (flat / 2)) && ((leb points order && leb points (chain / 2)) && roomy d n)

unfoldable pub hull_lent : Precision → Plane → List Float → ℕ → ℕ → ℕ → ℕ → ℕ → ℕ → Outcome (List Point3)
hull_lent t w cap points flat order chain d n =
    unless (not (hull_fits points (length cap) flat order chain d n)) 64 (cap_of t w (points_at cap 0 points))

-- ---- cells

-- faces with these numbers of corners lie within m floats, each with at most 128 corners
unfoldable pub within_fits : List ℕ → ℕ → ℕ → Bool
within_fits [] at m = true
within_fits (n ∷ ns) at m = (leb n 128 && leb (at + (13 + 3 * n)) m) && within_fits ns (at + (13 + 3 * n)) m

unfoldable pub cell_fits : ℕ → ℕ → List ℕ → ℕ → ℕ → Bool
cell_fits m from sizes j faces = leb (j + faces) (length sizes) && (leb from m && within_fits (counts_at sizes j faces) from m)

-- the work memory of a cut
unfoldable pub work_fits : ℕ → ℕ → ℕ → ℕ → ℕ → Bool
work_fits face cap flat order chain = (leb 384 face && leb 3072 cap) && ((leb 2048 flat && leb 1024 order) && leb 2048 chain)

-- the cell's place, and that of the numbers of faces and corners
unfoldable pub place_fits : ℕ → ℕ → ℕ → ℕ → ℕ → ℕ → Bool
place_fits limit d at n k told = leb (at + 1664 + 3 * limit) d && (leb (k + 128) n && leb 2 told)

-- how many faces and corners there are: none where nothing is left, and untouched at a refusal
unfoldable pub part_told : List ℕ → Outcome Part → List ℕ
part_told n (Ok nothing) = set (set n 0 0) 1 0
part_told n (Ok (part c)) = set (set n 0 (length c)) 1 (corners 0 c)
part_told n (Err r) = n

-- the same of the code's answer
unfoldable pub clipped_told : List ℕ → Outcome Clipped → List ℕ
clipped_told n (Ok None) = set (set n 0 0) 1 0
clipped_told n (Ok (Some x)) = set (set n 0 x.faces) 1 x.corners
clipped_told n (Err r) = n

-- what lies behind the places: the part, nothing where nothing is left or was lent, and at any other refusal the faces before it
unfoldable pub behind : Bool → Outcome Part → Cell → Type 0
behind false o c = c ≡ []
behind true (Ok nothing) c = c ≡ []
behind true (Ok (part p)) c = c ≡ p
behind true (Err r) c = Unit {0}

unfoldable pub clip_fits : ℕ → ℕ → ℕ → List ℕ → ℕ → ℕ → ℕ → ℕ → ℕ → ℕ → ℕ → ℕ → ℕ → ℕ → ℕ → ℕ → Bool
clip_fits limit m from sizes j faces d at n k face cap flat order chain told =
    cell_fits m from sizes j faces && (work_fits face cap flat order chain && place_fits limit d at n k told)

pub record Cut (fits : Bool) (o : Outcome Part) (r : ℕ) (d : List Float) (at : ℕ) (n : List ℕ) (k : ℕ) (told : List ℕ) (d' : List Float) (n' told' : List ℕ) : Type 0 where
  pub cell : Cell
  pub is : behind fits o cell
  pub number : r ≡ number_of (unless (not fits) 64 o)
  pub floats : d' ≡ sets d at (cell_floats cell)
  pub counts : n' ≡ sets n k (cell_counts cell)
  pub tells : told' ≡ part_told told (unless (not fits) 64 o)
