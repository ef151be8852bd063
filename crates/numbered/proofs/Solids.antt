-- The solid check, and solids built of cells: up to 7, and 33 of a given solid; what every call begins with: up to 12.
use Rattle.std.specs.Prelude.{Bool, true, false, not, ◌&&◌, List, [], ◌∷◌, map, ℕ, zero, suc, ◌+◌, length, Ok, Err}
use Rattle.refusal.specs.Outcome.{Outcome}
use Rattle.lists.specs.Walks.{numbered}
use Rattle.space.specs.declared.Point3.{Point3}
use Rattle.space.specs.declared.Precision.{Precision}
use Rattle.space.specs.declared.Plane.{Plane}
use Rattle.space.specs.declared.Closeness.{Closeness}
use Rattle.space.specs.declared.Closeness.TheVariants as C
use Rattle.space.specs.Shapes.{Cell, Solid}
use Rattle.space.specs.Vector.{fair_precision}
use Rattle.space.specs.Near.{near_of}
use Rattle.side.specs.declared.Side.{Side}
use Rattle.side.specs.declared.Side.TheVariants as D
use Rattle.side.specs.Sides.{side_of}
use Rattle.job.specs.declared.Layout.{Layout}
use Rattle.job.specs.Read.{solid_at}
use Rattle.interval.specs.declared.Sign.{Sign}
use Rattle.interval.specs.declared.Sign.TheVariants as S
use Rattle.turns.specs.Turns.{zero_where, turned, orientation_of}
use Rattle.solids.specs.Apart.{not_near, apart_from, apart_all}
use Rattle.solids.specs.Sides.{has, judge_side, point_side, some_below, face_sides}
use Rattle.solids.specs.Dents.{not_dented, turns_from, face_turns, turns_if}
use Rattle.solids.specs.Frames.{framed_all, sides_by, sides_all}
use Rattle.solids.specs.Order.{fair_all, counted_all, shaped}
use Rattle.topology.specs.Topology.{sound}
use Rattle.solid_check.specs.Check.{after, check}
use Rattle.built.specs.Built.{built}
use Rattle.finish.specs.Finish.{finish}
use Rattle.jobs.specs.Jobs.{open_with, open_job, open_cell_with, open_cell, both_of}
use Rattle.numbered.specs.Numbered.{Numbered, answer, number, unsure, Judged, fine, ruled, numbered_at, numbered_then, numbered_unless, numbered_walk, numbered_each, judged_at, judged_of}
use Rattle.numbered.proofs.Numbered.{numbered_more, judged_more}
use Rattle.numbered.specs.Reading.{layout_numbered, cell_numbered}
use Rattle.numbered.specs.Points.{Sided, side_numbered, Close, near_numbered, indexed_numbered}
use Rattle.numbered.specs.Solids.{judged_first, judged_each, plane_for_numbered, cell_of_numbered}

-- ---- pairs of points

pair_judged : (c : Outcome Closeness) → Close c → Judged 7 (not_near c)
unfolding not_near
pair_judged (Ok C.Near) w = judged_at 4 tt tt
pair_judged (Ok C.Apart) w = fine
pair_judged (Err r) w = judged_more tt (ruled r w)

apart_judged : (t : Precision) (l : List Point3) → Judged 7 (apart_all t l)
unfolding apart_all apart_from
apart_judged t [] = fine
apart_judged t (q ∷ l) = judged_first (judged_each _ (λ r. pair_judged (near_of t q r) (near_numbered t q r)) l) (apart_judged t l)

-- ---- the points against the faces

side_judged : (s : Outcome Side) (own b : Bool) → Sided s → Numbered 7 (judge_side s own b)
unfolding judge_side
side_judged (Ok D.Positive) own b w = numbered_at 4 tt tt
side_judged (Ok D.Negative) own b w = numbered_unless own 4 tt tt (answer true)
side_judged (Ok D.Zero) own b w = answer b
side_judged (Err r) own b w = number r w

below_judged : {o : Outcome Bool} → Numbered 7 o → Judged 7 (some_below o)
unfolding some_below
below_judged (answer true) = fine
below_judged (answer false) = judged_at 4 tt tt
below_judged (number r w) = ruled r w

sides_judged : (t : Precision) (w : Plane) (f : List ℕ) (ps : List Point3) → Judged 7 (face_sides t w f ps)
unfolding face_sides point_side
sides_judged t w f ps = below_judged (numbered_walk (point_side t w f) (λ b q. side_judged (side_of t w q.it) (has q.place false f) b (side_numbered t w q.it)) false (numbered 0 ps))

-- ---- the turns of a given face

zero_judged : (z : Bool) → Judged 7 (not_dented (zero_where z))
unfolding not_dented
zero_judged true = fine
zero_judged false = ruled _ (unsure 7)

turn_judged : (s : Sign) (z : Bool) → Judged 7 (not_dented (turned s z))
unfolding turned not_dented
turn_judged S.Positive z = fine
turn_judged S.Negative z = judged_at 4 tt tt
turn_judged S.Zero z = fine
turn_judged S.Unknown z = zero_judged z

turns_judged : (t : Precision) (w : Plane) (f : List ℕ) (ps : List Point3) (k i : ℕ) → Judged 7 (turns_from t w f ps k i)
unfolding turns_from orientation_of
turns_judged t w f ps zero i = fine
turns_judged t w f ps (suc k) i = judged_first (turn_judged _ _) (turns_judged t w f ps k (i + 1))

given_judged : (given : Bool) (t : Precision) (w : Plane) (f : List ℕ) (ps : List Point3) → Judged 7 (turns_if given t w f ps)
unfolding turns_if face_turns
given_judged true t w f ps = turns_judged t w f ps (length f) 0
given_judged false t w f ps = fine

by_judged : (given : Bool) (t : Precision) {o : Outcome Plane} (f : List ℕ) (ps : List Point3) → Numbered 7 o → Judged 7 (sides_by given t o f ps)
unfolding sides_by
by_judged given t f ps (answer w) = judged_first (sides_judged t w f ps) (given_judged given t w f ps)
by_judged given t f ps (number r w) = ruled r w

shaped_judged : (given : Bool) (t : Precision) (ps : List Point3) (fs : List (List ℕ)) → Judged 7 (shaped given t ps fs)
unfolding shaped framed_all sides_all
shaped_judged given t ps fs =
    judged_first (judged_each _ (λ f. judged_of (numbered_more tt (plane_for_numbered t ps f))) fs)
    (judged_first (apart_judged t ps) (judged_each _ (λ f. by_judged given t f ps (numbered_more tt (plane_for_numbered t ps f))) fs))

-- ---- the check

after_numbered : {A : Type 0} {n : ℕ} {v : Outcome Unit} {o : Outcome A} → Judged n v → Numbered n o → Numbered n (after v o)
unfolding after
after_numbered fine w = w
after_numbered (ruled r x) w = number r x

pub check_numbered : (given : Bool) (t : Precision) (s : Solid) → Numbered 7 (check given t s)
unfolding check
check_numbered given t s =
    numbered_unless (not (fair_all s.points)) 2 tt tt
    (numbered_unless (given && not (counted_all (length s.points) (length s.faces) (map length s.faces))) 3 tt tt
    (numbered_unless (not (sound (length s.points) s.faces)) 4 tt tt
    (after_numbered (shaped_judged given t s.points s.faces) (numbered_more tt (cell_of_numbered t s)))))

pub built_numbered : (t : Precision) (c : Cell) → Numbered 7 (built t c)
unfolding built
built_numbered t c = numbered_then (numbered_more tt (indexed_numbered t c)) (λ s. numbered_then (check_numbered false t s) (λ _. answer s))

pub finish_numbered : (t : Precision) (cs : List Cell) → Numbered 7 (finish t cs)
unfolding finish
finish_numbered t cs = numbered_each (built t) (built_numbered t) [] cs

-- ---- what every call begins with

pub open_numbered : (lends : Bool) (l : List ℕ) → Numbered 12 (open_job lends l)
unfolding open_job open_with
open_numbered lends l =
    numbered_then (numbered_more tt (layout_numbered l)) (λ y. numbered_unless (not lends) 12 tt tt (numbered_unless (not (fair_precision y.precision)) 2 tt tt (answer y)))

pub open_cell_numbered : (lends : Bool) (l : List ℕ) → Numbered 12 (open_cell lends l)
unfolding open_cell open_cell_with
open_cell_numbered lends l =
    numbered_then (numbered_more tt (cell_numbered l)) (λ y. numbered_unless (not lends) 12 tt tt (numbered_unless (not (fair_precision y.precision)) 2 tt tt (answer y)))

pub both_solids_numbered : (l : List ℕ) (y : Layout) → Numbered 7 (both_of l y)
unfolding both_of
both_solids_numbered l y =
    numbered_then (check_numbered true y.precision (solid_at l y.first)) (λ a. numbered_then (check_numbered true y.precision (solid_at l y.second)) (λ b. answer _))
