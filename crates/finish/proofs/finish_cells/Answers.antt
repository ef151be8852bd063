use borrow.Author.Rules.{rules}
use mathlib.Core.Path.{◌≡◌, refl, sym, ◌∙◌}
use native.Mathlib.Omega.{arith}
use Rattle.std.specs.Prelude.{Err}
use Rattle.finish.specs.Laws.{finishing_start, finishing_seat, finishing_ahead, finishing_sizes, finishing_space, finishing_sums, finishing_step, finishing_stop, finishing_end, finishing_lain, alike_bench, stands_lies, stands_many, inside, outside, finished_before, finished_stop, finished_end}
use Rattle.finish.proofs.finish_cells.Goals as goal

pub returns-in_err-s : goal.returns-in_err-s
returns-in_err-s c =
    let told : c.from_residual.result ≡ Err c.in_err-s.field-0.0 = search rules in
    rw (told ∙ sym c.in_err-s.was) (finished_before _ _ _ _ _ _ c.requires.holds.0 _ _ _ _ c.in_err-s.was)

pub loop-j-init : goal.loop-j-init
loop-j-init c = record {
  lies = stands_lies _ _ _ _ _ c.requires.holds.0 c.in_ok-s.was;
  many = stands_many _ _ _ _ _ c.requires.holds.0 c.in_ok-s.was;
  going = finishing_start _ _ _ _ _;
  alike = record { ends = refl; head = refl; next = refl; seen = refl; work = refl; nodes = refl; cuts = refl };
}

pub offset_bounds-sizes-j : goal.offset_bounds-sizes-j
offset_bounds-sizes-j c =
    let I = c.loop-j.invariant in
    omega (arith, finishing_seat I.going _ _ _ _ I.lies (inside I.many c.loop-j-test.true), c.well_formed)

pub bounds-sizes-j : goal.bounds-sizes-j
bounds-sizes-j c = let I = c.loop-j.invariant in finishing_seat I.going _ _ _ _ I.lies (inside I.many c.loop-j-test.true)

pub corners_of-c-requires : goal.corners_of-c-requires
corners_of-c-requires c =
    let I = c.loop-j.invariant in
    let A = finishing_ahead I.going _ _ _ _ I.lies (inside I.many c.loop-j-test.true) in
    (A.listed, omega (arith, A.held))

pub finish_cell-requires : goal.finish_cell-requires
finish_cell-requires c =
    let I = c.loop-j.invariant in
    let left = inside I.many c.loop-j-test.true in
    let A = finishing_ahead I.going _ _ _ _ I.lies left in
    let e = c.corners_of-c.ensures in
    record {
      space = finishing_space I.going _ _ _ _ I.lies left _ e c.requires.holds.1;
      bench = alike_bench _ _ _ _ I.alike c.requires.bench (omega (arith, e, A.held)) (omega (arith, A.few, A.held));
    }

pub shape_of-points-in_err-m : goal.shape_of-points-in_err-m
shape_of-points-in_err-m c =
    let I = c.loop-j.invariant in
    let F = c.finish_cell in
    let stop = finishing_stop I.going _ _ _ _ I.lies (inside I.many c.loop-j-test.true) _ c.corners_of-c.ensures _ _ _ F.ensures _ c.in_err-m.was in
    stop.1

pub shape_of-places-in_err-m : goal.shape_of-places-in_err-m
shape_of-places-in_err-m c =
    let I = c.loop-j.invariant in
    let F = c.finish_cell in
    let stop = finishing_stop I.going _ _ _ _ I.lies (inside I.many c.loop-j-test.true) _ c.corners_of-c.ensures _ _ _ F.ensures _ c.in_err-m.was in
    stop.2

pub shape_of-marks-in_err-m : goal.shape_of-marks-in_err-m
shape_of-marks-in_err-m c = let I = c.loop-j.invariant in (finishing_sizes I.going _ _ _ _ I.lies).2

pub shape_of-ends-in_err-m : goal.shape_of-ends-in_err-m
shape_of-ends-in_err-m c = c.finish_cell.auto.ends ∙ c.loop-j.invariant.alike.ends

pub shape_of-head-in_err-m : goal.shape_of-head-in_err-m
shape_of-head-in_err-m c = c.finish_cell.auto.head ∙ c.loop-j.invariant.alike.head

pub shape_of-next-in_err-m : goal.shape_of-next-in_err-m
shape_of-next-in_err-m c = c.finish_cell.auto.next ∙ c.loop-j.invariant.alike.next

pub shape_of-seen-in_err-m : goal.shape_of-seen-in_err-m
shape_of-seen-in_err-m c = c.finish_cell.auto.seen ∙ c.loop-j.invariant.alike.seen

pub shape_of-work-in_err-m : goal.shape_of-work-in_err-m
shape_of-work-in_err-m c = c.finish_cell.auto.work ∙ c.loop-j.invariant.alike.work

pub shape_of-nodes-in_err-m : goal.shape_of-nodes-in_err-m
shape_of-nodes-in_err-m c = c.finish_cell.auto.nodes ∙ c.loop-j.invariant.alike.nodes

pub shape_of-cuts-in_err-m : goal.shape_of-cuts-in_err-m
shape_of-cuts-in_err-m c = c.finish_cell.auto.cuts ∙ c.loop-j.invariant.alike.cuts

pub returns-in_err-m : goal.returns-in_err-m
returns-in_err-m c =
    let told : c.from_residual-in_err-m.result ≡ Err c.in_err-m.field-0.0 = search rules in
    let I = c.loop-j.invariant in
    let F = c.finish_cell in
    let stop = finishing_stop I.going _ _ _ _ I.lies (inside I.many c.loop-j-test.true) _ c.corners_of-c.ensures _ _ _ F.ensures _ c.in_err-m.was in
    rw told (finished_stop _ _ _ _ _ _ c.requires.holds.0 c.in_ok-s.was _ _ _ _ stop.0)

pub offset_bounds-marks-j : goal.offset_bounds-marks-j
offset_bounds-marks-j c =
    let I = c.loop-j.invariant in
    let F = c.finish_cell in
    let sizes = finishing_sizes I.going _ _ _ _ I.lies in
    let X = finishing_sums I.going _ _ _ _ I.lies (inside I.many c.loop-j-test.true) _ c.corners_of-c.ensures _ _ _ F.ensures _ c.in_ok-m.was c.requires.holds.1 in
    omega (arith, X.floats, X.faces, X.points, X.places, X.mark, sizes.2, c.well_formed)

pub bounds-marks-j : goal.bounds-marks-j
bounds-marks-j c =
    let I = c.loop-j.invariant in
    let F = c.finish_cell in
    let sizes = finishing_sizes I.going _ _ _ _ I.lies in
    let X = finishing_sums I.going _ _ _ _ I.lies (inside I.many c.loop-j-test.true) _ c.corners_of-c.ensures _ _ _ F.ensures _ c.in_ok-m.was c.requires.holds.1 in
    omega (arith, X.floats, X.faces, X.points, X.places, X.mark, sizes.2, c.well_formed)

pub overflow_mul-o : goal.overflow_mul-o
overflow_mul-o c =
    let I = c.loop-j.invariant in
    let F = c.finish_cell in
    let sizes = finishing_sizes I.going _ _ _ _ I.lies in
    let X = finishing_sums I.going _ _ _ _ I.lies (inside I.many c.loop-j-test.true) _ c.corners_of-c.ensures _ _ _ F.ensures _ c.in_ok-m.was c.requires.holds.1 in
    omega (arith, X.floats, X.faces, X.points, X.places, X.mark, sizes.2, c.well_formed)

pub overflow_mul-o-in-loop-j : goal.overflow_mul-o-in-loop-j
overflow_mul-o-in-loop-j c =
    let I = c.loop-j.invariant in
    let F = c.finish_cell in
    let sizes = finishing_sizes I.going _ _ _ _ I.lies in
    let X = finishing_sums I.going _ _ _ _ I.lies (inside I.many c.loop-j-test.true) _ c.corners_of-c.ensures _ _ _ F.ensures _ c.in_ok-m.was c.requires.holds.1 in
    omega (arith, X.floats, X.faces, X.points, X.places, X.mark, sizes.2, c.well_formed)

pub overflow_add-o : goal.overflow_add-o
overflow_add-o c =
    let I = c.loop-j.invariant in
    let F = c.finish_cell in
    let sizes = finishing_sizes I.going _ _ _ _ I.lies in
    let X = finishing_sums I.going _ _ _ _ I.lies (inside I.many c.loop-j-test.true) _ c.corners_of-c.ensures _ _ _ F.ensures _ c.in_ok-m.was c.requires.holds.1 in
    omega (arith, X.floats, X.faces, X.points, X.places, X.mark, sizes.2, c.well_formed)

pub overflow_add-o-in-loop-j : goal.overflow_add-o-in-loop-j
overflow_add-o-in-loop-j c =
    let I = c.loop-j.invariant in
    let F = c.finish_cell in
    let sizes = finishing_sizes I.going _ _ _ _ I.lies in
    let X = finishing_sums I.going _ _ _ _ I.lies (inside I.many c.loop-j-test.true) _ c.corners_of-c.ensures _ _ _ F.ensures _ c.in_ok-m.was c.requires.holds.1 in
    omega (arith, X.floats, X.faces, X.points, X.places, X.mark, sizes.2, c.well_formed)

pub overflow_add-f : goal.overflow_add-f
overflow_add-f c =
    let I = c.loop-j.invariant in
    let F = c.finish_cell in
    let sizes = finishing_sizes I.going _ _ _ _ I.lies in
    let X = finishing_sums I.going _ _ _ _ I.lies (inside I.many c.loop-j-test.true) _ c.corners_of-c.ensures _ _ _ F.ensures _ c.in_ok-m.was c.requires.holds.1 in
    omega (arith, X.floats, X.faces, X.points, X.places, X.mark, sizes.2, c.well_formed)

pub overflow_mul-p : goal.overflow_mul-p
overflow_mul-p c =
    let I = c.loop-j.invariant in
    let F = c.finish_cell in
    let sizes = finishing_sizes I.going _ _ _ _ I.lies in
    let X = finishing_sums I.going _ _ _ _ I.lies (inside I.many c.loop-j-test.true) _ c.corners_of-c.ensures _ _ _ F.ensures _ c.in_ok-m.was c.requires.holds.1 in
    omega (arith, X.floats, X.faces, X.points, X.places, X.mark, sizes.2, c.well_formed)

pub overflow_add-p : goal.overflow_add-p
overflow_add-p c =
    let I = c.loop-j.invariant in
    let F = c.finish_cell in
    let sizes = finishing_sizes I.going _ _ _ _ I.lies in
    let X = finishing_sums I.going _ _ _ _ I.lies (inside I.many c.loop-j-test.true) _ c.corners_of-c.ensures _ _ _ F.ensures _ c.in_ok-m.was c.requires.holds.1 in
    omega (arith, X.floats, X.faces, X.points, X.places, X.mark, sizes.2, c.well_formed)

pub overflow_add-q : goal.overflow_add-q
overflow_add-q c =
    let I = c.loop-j.invariant in
    let F = c.finish_cell in
    let sizes = finishing_sizes I.going _ _ _ _ I.lies in
    let X = finishing_sums I.going _ _ _ _ I.lies (inside I.many c.loop-j-test.true) _ c.corners_of-c.ensures _ _ _ F.ensures _ c.in_ok-m.was c.requires.holds.1 in
    omega (arith, X.floats, X.faces, X.points, X.places, X.mark, sizes.2, c.well_formed)

pub loop-j-preserved : goal.loop-j-preserved
loop-j-preserved c =
    let I = c.loop-j.invariant in
    let F = c.finish_cell in
    record {
      lies = I.lies;
      many = I.many;
      going = finishing_step I.going _ _ _ _ I.lies (inside I.many c.loop-j-test.true) _ c.corners_of-c.ensures _ _ _ F.ensures _ _ c.in_ok-m.was refl;
      alike = record {
        ends = F.auto.ends ∙ I.alike.ends;
        head = F.auto.head ∙ I.alike.head;
        next = F.auto.next ∙ I.alike.next;
        seen = F.auto.seen ∙ I.alike.seen;
        work = F.auto.work ∙ I.alike.work;
        nodes = F.auto.nodes ∙ I.alike.nodes;
        cuts = F.auto.cuts ∙ I.alike.cuts;
      };
    }

pub shape_of-points : goal.shape_of-points
shape_of-points c = let I = c.loop-j.invariant in (finishing_sizes I.going _ _ _ _ I.lies).0

pub shape_of-places : goal.shape_of-places
shape_of-places c = let I = c.loop-j.invariant in (finishing_sizes I.going _ _ _ _ I.lies).1

pub shape_of-marks : goal.shape_of-marks
shape_of-marks c = let I = c.loop-j.invariant in (finishing_sizes I.going _ _ _ _ I.lies).2

pub shape_of-ends : goal.shape_of-ends
shape_of-ends c = c.loop-j.invariant.alike.ends

pub shape_of-head : goal.shape_of-head
shape_of-head c = c.loop-j.invariant.alike.head

pub shape_of-next : goal.shape_of-next
shape_of-next c = c.loop-j.invariant.alike.next

pub shape_of-seen : goal.shape_of-seen
shape_of-seen c = c.loop-j.invariant.alike.seen

pub shape_of-work : goal.shape_of-work
shape_of-work c = c.loop-j.invariant.alike.work

pub shape_of-nodes : goal.shape_of-nodes
shape_of-nodes c = c.loop-j.invariant.alike.nodes

pub shape_of-cuts : goal.shape_of-cuts
shape_of-cuts c = c.loop-j.invariant.alike.cuts

pub returns : goal.returns
returns c =
    let I = c.loop-j.invariant in
    let h = outside I.many c.loop-j-test.false in
    finished_end _ _ _ _ _ _ c.requires.holds.0 c.in_ok-s.was I.going.solids _ _ _ (finishing_end I.going _ _ _ _ I.lies h) (finishing_lain I.going _ _ _ _ I.lies _ I.many h c.requires.holds.1)
