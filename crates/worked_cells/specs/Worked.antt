-- P7 holds of the definitions, by computation, plane by plane, each step over the value that the step before gives. Assumes nothing.
use Rattle.std.specs.Prelude.{◌≡◌, refl, true, false, List, [], ◌∷◌, length, Ok}
use Rattle.std.proofs.Common.{ap, ◌∙◌}
use Rattle.refusal.specs.Outcome.{Outcome, then, walk, each, verdict_of}
use Rattle.space.specs.declared.Point3.{Point3}
use Rattle.space.specs.Vector.{fair, fair_point}
use Rattle.space.specs.Shapes.{Cell, part, Solid, corners, all_corners}
use Rattle.clip.specs.Cuts.{clip}
use Rattle.stack.specs.Stacks.{add_cell, add_part}
use Rattle.job.specs.declared.Operation.TheVariants.{Intersection}
use Rattle.cells.specs.Cells.{cells, common, clip_part, clip_face}
use Rattle.indexed.specs.Indexed.{indexed}
use Rattle.sums.specs.Keys.{nbr, nbrs}
use Rattle.sums.specs.Components.{components}
use Rattle.groups.specs.Chain.{up_from, pairs_of}
use Rattle.groups.specs.Groups.{joins_of}
use Rattle.solids.specs.Apart.{first_of, each_in, not_near, apart_from, apart_all}
use Rattle.solids.specs.Sides.{has, judge_side, point_side, some_below, face_sides}
use Rattle.solids.specs.Dents.{turns_if}
use Rattle.solids.specs.Frames.{plane_for, framed_all, sides_by, sides_all}
use Rattle.solids.specs.Order.{fair_all, shaped}
use Rattle.topology.specs.Topology.{corners_of, count, fits, used_all, face_with, joins, connected, rounded, sound_by, sound}
use Rattle.solid_check.specs.Check.{check, after, cell_of, framed}
use Rattle.solid_check.proofs.Laws.{cell_framed}
use Rattle.built.specs.Built.{built}
use Rattle.finish.specs.Finish.{finish}
use Rattle.worked.specs.Open.{open_space, open_side, open_cut, open_indexed}
use Rattle.worked.specs.Shapes.{tol, box_faces, cell_a}
use Rattle.worked.specs.Worked.{face_of, box_cell}
use Rattle.worked_cells.specs.Values.{box_faces13, b1, b2, b3, b4, b5, b6, cell_b, cut1, cut3, cut5, solid7}

-- ---- the steps, each by computation

second_box : each face_of [] box_faces13 ≡ Ok cell_b
unfolding open_space face_of
second_box = refl

clip_1 : clip tol 720 b1 cell_a ≡ Ok (part cut1)
unfolding open_cut
clip_1 = refl

clip_2 : clip tol 720 b2 cut1 ≡ Ok (part cut1)
unfolding open_cut
clip_2 = refl

clip_3 : clip tol 720 b3 cut1 ≡ Ok (part cut3)
unfolding open_cut
clip_3 = refl

clip_4 : clip tol 720 b4 cut3 ≡ Ok (part cut3)
unfolding open_cut
clip_4 = refl

clip_5 : clip tol 720 b5 cut3 ≡ Ok (part cut5)
unfolding open_cut
clip_5 = refl

clip_6 : clip tol 720 b6 cut5 ≡ Ok (part cut5)
unfolding open_cut
clip_6 = refl

-- one cell
common_7 : cells Intersection tol 720 cell_a cell_b ≡ Ok (cut5 ∷ [])
unfolding cells common walk clip_face clip_part add_part add_cell corners all_corners
common_7 = rw (clip_1, clip_2, clip_3, clip_4, clip_5, clip_6)

-- the intersection of two boxes by the corners of their faces
abbrev pub common_of : List (List Point3) → List (List Point3) → Outcome (List Cell)
common_of f g = then (each face_of [] f) (λ a. then (each face_of [] g) (λ b. cells Intersection tol 720 a b))

p7 : common_of box_faces box_faces13 ≡ Ok (cut5 ∷ [])
p7 = ap (λ o. then o (λ a. then (each face_of [] box_faces13) (λ b. cells Intersection tol 720 a b))) box_cell
    ∙ ap (λ o. then o (λ b. cells Intersection tol 720 cell_a b)) second_box ∙ common_7

indexed_7 : indexed tol cut5 ≡ Ok solid7
unfolding open_indexed
indexed_7 = refl

fair_7 : fair_all solid7.points ≡ true
unfolding open_space fair fair_point fair_all
fair_7 = refl

sound_7 : sound (length solid7.points) solid7.faces ≡ true
unfolding open_space has nbr nbrs components up_from pairs_of joins_of corners_of count fits used_all face_with joins connected rounded sound_by sound
sound_7 = refl

shaped_7 : shaped false tol solid7.points solid7.faces ≡ Ok tt
unfolding open_side verdict_of first_of each_in not_near apart_from apart_all has judge_side point_side some_below face_sides plane_for framed_all turns_if sides_by sides_all shaped
shaped_7 = refl

checked_7 : check false tol solid7 ≡ Ok (framed tol solid7.points solid7.faces)
unfolding check after
checked_7 = rw (fair_7, sound_7, shaped_7) (cell_framed false tol solid7 shaped_7)

built_7 : built tol cut5 ≡ Ok solid7
unfolding built
built_7 = rw (indexed_7, checked_7)

finish_7 : finish tol (cut5 ∷ []) ≡ Ok (solid7 ∷ [])
unfolding finish each
finish_7 = rw built_7

-- what a case asks: the intersection of two boxes as cells, and as the solids of the answer
pub data Case : Type 0 where
  common_cells : List (List Point3) → List (List Point3) → List Cell → Case
  common_solids : List (List Point3) → List (List Point3) → List Solid → Case

abbrev pub Holds : Case → Type 0
Holds (common_cells f g r) = common_of f g ≡ Ok r
Holds (common_solids f g r) = then (common_of f g) (finish tol) ≡ Ok r

abbrev pub cases : List Case
cases = common_cells box_faces box_faces13 (cut5 ∷ []) ∷ common_solids box_faces box_faces13 (solid7 ∷ []) ∷ []

abbrev pub All : List Case → Type 0
All [] = Unit {0}
All (c ∷ cs) = Holds c × All cs

-- P7: one cell, the box 1..2
pub all_hold : All cases
all_hold = (p7, (ap (λ o. then o (finish tol)) p7 ∙ finish_7, tt))
