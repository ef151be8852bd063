-- P13 and the thin wall hold of the definitions, by computation. Assumes nothing.
use Rattle.std.specs.Prelude.{◌≡◌, refl, ℕ, true, false, List, [], ◌∷◌, Float, Ok}
use Rattle.std.proofs.Common.{ap, ◌∙◌}
use Rattle.refusal.specs.Outcome.{Outcome, refuse, then, heard, verdict_of}
use Rattle.space.specs.Vector.{fair, fair_point}
use Rattle.space.specs.Shapes.{Cell, Solid}
use Rattle.sums.specs.Sum.{hit}
use Rattle.sums.specs.Keys.{nbr, nbrs}
use Rattle.sums.specs.Components.{components, comps, gather, visits, visit, visit'}
use Rattle.groups.specs.Chain.{pairs_of, up_from}
use Rattle.groups.specs.Groups.{joins_of}
use Rattle.solids.specs.Apart.{first_of, each_in, not_near, apart_from, apart_all}
use Rattle.solids.specs.Sides.{has, judge_side, point_side, some_below, face_sides}
use Rattle.solids.specs.Dents.{turns_if}
use Rattle.solids.specs.Frames.{plane_for, framed_all, sides_by, sides_all}
use Rattle.solids.specs.Order.{fair_all, shaped}
use Rattle.topology.specs.Topology.{corners_of, count, fits, used_all, face_with, joins, connected, rounded, sound_by, sound}
use Rattle.solid_check.specs.Check.{face_of, cell_of, after, check}
use Rattle.built.specs.Built.{built}
use Rattle.bounds.specs.Bounds.{not_above, judged, point_in, points_in, against}
use Rattle.shift.specs.Shifts.{meeting, push_if, delta_of, residual, outside, moved_to, flat, moved_by, moved_at, moved_plane}
use Rattle.offset.specs.Offsets.{moving, pushes, move_points, move_face, not_crossed, move_all, offset_distances, offset_cell}
use Rattle.hollow.specs.Hollows.{Hollow, thick, hollow}
use Rattle.worked.specs.Open.{open_numbers, open_indexed}
use Rattle.worked.specs.Shapes.{n1, m1, tol, cell_a}
use Rattle.worked_offset.specs.Values.{h1, h3, by_half, by_two, moved_box, solid_box}

unfoldable pub open_offset : Unit {0}
unfolding open_indexed heard first_of each_in has not_above judged point_in points_in against meeting push_if delta_of residual outside moved_to flat moved_by moved_at moved_plane moving pushes move_points move_face not_crossed move_all offset_distances offset_cell
open_offset = tt

by_half_lem : offset_cell tol by_half cell_a ≡ Ok (moved_box h1 h3)
unfolding open_offset
by_half_lem = refl

by_one : offset_cell tol m1 cell_a ≡ Ok (moved_box n1 n1)
unfolding open_offset
by_one = refl

by_two_lem : offset_cell tol by_two cell_a ≡ refuse 27
unfolding open_offset
by_two_lem = refl

unfoldable pub open_check : Unit {0}
unfolding open_indexed verdict_of fair fair_point fair_all first_of each_in not_near apart_from apart_all has judge_side point_side some_below face_sides plane_for framed_all turns_if sides_by sides_all shaped up_from hit nbr nbrs pairs_of joins_of visit' visit visits gather comps components corners_of count fits used_all face_with joins connected rounded sound_by sound face_of cell_of after check built
open_check = tt

half_built : built tol (moved_box h1 h3) ≡ Ok (solid_box h1 h3)
unfolding open_check
half_built = refl

one_built : built tol (moved_box n1 n1) ≡ refuse 4
unfolding open_check
one_built = refl

thin : (solid : Outcome Cell) (built : Cell → Outcome Cell) → hollow tol 720 tol.linear solid built ≡ refuse 28
unfolding open_numbers thick hollow
thin solid built = refl

-- what a case asks: the solid that the box 0..2 gives, offset by a distance; a wall that is refused, whatever the solid is
pub data Case : Type 0 where
  offset_by : Float → Outcome Solid → Case
  wall_of : Float → Outcome Hollow → Case

abbrev pub Holds : Case → Type 0
Holds (offset_by d r) = then (offset_cell tol d cell_a) (built tol) ≡ r
Holds (wall_of w r) = (solid : Outcome Cell) (built : Cell → Outcome Cell) → hollow tol 720 w solid built ≡ r

abbrev pub cases : List Case
cases = offset_by by_half (Ok (solid_box h1 h3)) ∷ offset_by m1 (refuse 4) ∷ offset_by by_two (refuse 27) ∷ wall_of tol.linear (refuse 28) ∷ []

abbrev pub All : List Case → Type 0
All [] = Unit {0}
All (c ∷ cs) = Holds c × All cs

-- the moved cell, then the solid
onward : {c : Cell} {r : Outcome Solid} (d : Float) → offset_cell tol d cell_a ≡ Ok c → built tol c ≡ r → then (offset_cell tol d cell_a) (built tol) ≡ r
onward d e h = ap (λ o. then o (built tol)) e ∙ h

-- P13: -1/2, -1 and -2; hollow at thickness linear
pub all_hold : All cases
all_hold = (onward by_half by_half_lem half_built, (onward m1 by_one one_built, (ap (λ o. then o (built tol)) by_two_lem, (thin, tt))))
