use mathlib.Core.Path.{refl}
use Prim.Native.Nat.{◌-◌}
use Rattle.finish.specs.Laws.{inside, outside}
use Rattle.cell_answer.specs.Laws.{putting_start, putting_seats, putting_turn, putting_within, putting_size, putting_room, putting_corners, putting_points, putting_step, putting_end, tells_lain, tells_many, ended_before, ended_end}
use native.Mathlib.Omega.{arith}
use Rattle.cell_answer.proofs.put_solids.Goals as goal

pub returns-in_default : goal.returns-in_default
returns-in_default c = record { value = (ended_before _ _ _ _ _ _ _ _ c.requires.0 _ c.args.out.now c.in_default.is).0; out_after = (ended_before _ _ _ _ _ _ _ _ c.requires.0 _ c.args.out.now c.in_default.is).1 }

pub loop-j-init : goal.loop-j-init
loop-j-init c = putting_start _ _

pub offset_bounds-marks-j : goal.offset_bounds-marks-j
offset_bounds-marks-j c =
    let fine = c.in-Ok.is in
    let L = tells_lain _ _ _ _ _ _ _ _ c.requires.0 fine in
    let I = c.loop-j.invariant in
    let h = inside (tells_many _ _ _ _ _ _ _ _ c.requires.0 fine) c.loop-j-test.true in
    let w = putting_seats I _ _ _ _ _ _ _ L h in
    omega (arith, w.0, w.1, c.well_formed)

pub bounds-marks-j : goal.bounds-marks-j
bounds-marks-j c =
    let fine = c.in-Ok.is in
    let L = tells_lain _ _ _ _ _ _ _ _ c.requires.0 fine in
    let I = c.loop-j.invariant in
    let h = inside (tells_many _ _ _ _ _ _ _ _ c.requires.0 fine) c.loop-j-test.true in
    let w = putting_seats I _ _ _ _ _ _ _ L h in
    omega (arith, w.0, w.1, c.well_formed)

pub offset_bounds-sizes-j : goal.offset_bounds-sizes-j
offset_bounds-sizes-j c =
    let fine = c.in-Ok.is in
    let L = tells_lain _ _ _ _ _ _ _ _ c.requires.0 fine in
    let I = c.loop-j.invariant in
    let h = inside (tells_many _ _ _ _ _ _ _ _ c.requires.0 fine) c.loop-j-test.true in
    let w = putting_seats I _ _ _ _ _ _ _ L h in
    omega (arith, w.0, w.1, c.well_formed)

pub bounds-sizes-j : goal.bounds-sizes-j
bounds-sizes-j c =
    let fine = c.in-Ok.is in
    let L = tells_lain _ _ _ _ _ _ _ _ c.requires.0 fine in
    let I = c.loop-j.invariant in
    let h = inside (tells_many _ _ _ _ _ _ _ _ c.requires.0 fine) c.loop-j-test.true in
    let w = putting_seats I _ _ _ _ _ _ _ L h in
    omega (arith, w.0, w.1, c.well_formed)

pub corners_of-c-requires : goal.corners_of-c-requires
corners_of-c-requires c =
    let fine = c.in-Ok.is in
    let L = tells_lain _ _ _ _ _ _ _ _ c.requires.0 fine in
    let I = c.loop-j.invariant in
    let h = inside (tells_many _ _ _ _ _ _ _ _ c.requires.0 fine) c.loop-j-test.true in
    let w = putting_corners I _ _ _ _ _ _ _ L h _ _ _ refl refl refl in
    (w.0, omega (arith, w.2))

pub offset_bounds-points-p : goal.offset_bounds-points-p
offset_bounds-points-p c =
    let fine = c.in-Ok.is in
    let L = tells_lain _ _ _ _ _ _ _ _ c.requires.0 fine in
    let I = c.loop-j.invariant in
    let h = inside (tells_many _ _ _ _ _ _ _ _ c.requires.0 fine) c.loop-j-test.true in
    let w = putting_within I _ _ _ _ _ _ _ L in
    omega (arith, w.0, w.1, w.2, c.well_formed)

pub slice_bounds-put_solid-count : goal.slice_bounds-put_solid-count
slice_bounds-put_solid-count c =
    let fine = c.in-Ok.is in
    let L = tells_lain _ _ _ _ _ _ _ _ c.requires.0 fine in
    let I = c.loop-j.invariant in
    let h = inside (tells_many _ _ _ _ _ _ _ _ c.requires.0 fine) c.loop-j-test.true in
    let w = putting_within I _ _ _ _ _ _ _ L in
    omega (arith, w.0, w.1, w.2, c.well_formed)

pub slice_bounds-put_solid-start : goal.slice_bounds-put_solid-start
slice_bounds-put_solid-start c =
    let fine = c.in-Ok.is in
    let L = tells_lain _ _ _ _ _ _ _ _ c.requires.0 fine in
    let I = c.loop-j.invariant in
    let h = inside (tells_many _ _ _ _ _ _ _ _ c.requires.0 fine) c.loop-j-test.true in
    let w = putting_within I _ _ _ _ _ _ _ L in
    omega (arith, w.0, w.1, w.2, c.well_formed)

pub offset_bounds-places-q : goal.offset_bounds-places-q
offset_bounds-places-q c =
    let fine = c.in-Ok.is in
    let L = tells_lain _ _ _ _ _ _ _ _ c.requires.0 fine in
    let I = c.loop-j.invariant in
    let h = inside (tells_many _ _ _ _ _ _ _ _ c.requires.0 fine) c.loop-j-test.true in
    let w = putting_within I _ _ _ _ _ _ _ L in
    omega (arith, w.0, w.1, w.2, c.well_formed)

pub slice_bounds-put_solid-count-in-loop-j : goal.slice_bounds-put_solid-count-in-loop-j
slice_bounds-put_solid-count-in-loop-j c =
    let fine = c.in-Ok.is in
    let L = tells_lain _ _ _ _ _ _ _ _ c.requires.0 fine in
    let I = c.loop-j.invariant in
    let h = inside (tells_many _ _ _ _ _ _ _ _ c.requires.0 fine) c.loop-j-test.true in
    let w = putting_within I _ _ _ _ _ _ _ L in
    omega (arith, w.0, w.1, w.2, c.well_formed)

pub slice_bounds-put_solid-start-in-loop-j : goal.slice_bounds-put_solid-start-in-loop-j
slice_bounds-put_solid-start-in-loop-j c =
    let fine = c.in-Ok.is in
    let L = tells_lain _ _ _ _ _ _ _ _ c.requires.0 fine in
    let I = c.loop-j.invariant in
    let h = inside (tells_many _ _ _ _ _ _ _ _ c.requires.0 fine) c.loop-j-test.true in
    let w = putting_within I _ _ _ _ _ _ _ L in
    omega (arith, w.0, w.1, w.2, c.well_formed)

pub offset_bounds-counts-f : goal.offset_bounds-counts-f
offset_bounds-counts-f c =
    let fine = c.in-Ok.is in
    let L = tells_lain _ _ _ _ _ _ _ _ c.requires.0 fine in
    let I = c.loop-j.invariant in
    let h = inside (tells_many _ _ _ _ _ _ _ _ c.requires.0 fine) c.loop-j-test.true in
    let w = putting_within I _ _ _ _ _ _ _ L in
    omega (arith, w.0, w.1, w.2, c.well_formed)

pub slice_bounds-put_solid-count-in-loop-j-2 : goal.slice_bounds-put_solid-count-in-loop-j-2
slice_bounds-put_solid-count-in-loop-j-2 c =
    let fine = c.in-Ok.is in
    let L = tells_lain _ _ _ _ _ _ _ _ c.requires.0 fine in
    let I = c.loop-j.invariant in
    let h = inside (tells_many _ _ _ _ _ _ _ _ c.requires.0 fine) c.loop-j-test.true in
    let w = putting_within I _ _ _ _ _ _ _ L in
    omega (arith, w.0, w.1, w.2, c.well_formed)

pub slice_bounds-put_solid-start-in-loop-j-2 : goal.slice_bounds-put_solid-start-in-loop-j-2
slice_bounds-put_solid-start-in-loop-j-2 c =
    let fine = c.in-Ok.is in
    let L = tells_lain _ _ _ _ _ _ _ _ c.requires.0 fine in
    let I = c.loop-j.invariant in
    let h = inside (tells_many _ _ _ _ _ _ _ _ c.requires.0 fine) c.loop-j-test.true in
    let w = putting_within I _ _ _ _ _ _ _ L in
    omega (arith, w.0, w.1, w.2, c.well_formed)

pub put_solid-at-requires : goal.put_solid-at-requires
put_solid-at-requires c =
    let fine = c.in-Ok.is in
    let L = tells_lain _ _ _ _ _ _ _ _ c.requires.0 fine in
    let I = c.loop-j.invariant in
    let h = inside (tells_many _ _ _ _ _ _ _ _ c.requires.0 fine) c.loop-j-test.true in
    let T = putting_turn I _ _ _ _ _ _ _ L h _ _ _ refl refl refl in
    (T.points, T.lent, putting_room I _ _ _ _ _ _ _ L h _ _ _ refl refl refl c.requires.1)

pub overflow_mul-p : goal.overflow_mul-p
overflow_mul-p c =
    let fine = c.in-Ok.is in
    let L = tells_lain _ _ _ _ _ _ _ _ c.requires.0 fine in
    let I = c.loop-j.invariant in
    let h = inside (tells_many _ _ _ _ _ _ _ _ c.requires.0 fine) c.loop-j-test.true in
    let w = putting_corners I _ _ _ _ _ _ _ L h _ _ _ refl refl refl in
    omega (arith, c.corners_of-c.ensures, w.0, w.1, putting_points I _ _ _ _ _ _ _ L h _ _ _ refl refl refl, (putting_seats I _ _ _ _ _ _ _ L h).0, c.well_formed)

pub overflow_add-p : goal.overflow_add-p
overflow_add-p c =
    let fine = c.in-Ok.is in
    let L = tells_lain _ _ _ _ _ _ _ _ c.requires.0 fine in
    let I = c.loop-j.invariant in
    let h = inside (tells_many _ _ _ _ _ _ _ _ c.requires.0 fine) c.loop-j-test.true in
    let w = putting_corners I _ _ _ _ _ _ _ L h _ _ _ refl refl refl in
    omega (arith, c.corners_of-c.ensures, w.0, w.1, putting_points I _ _ _ _ _ _ _ L h _ _ _ refl refl refl, (putting_seats I _ _ _ _ _ _ _ L h).0, c.well_formed)

pub overflow_add-q : goal.overflow_add-q
overflow_add-q c =
    let fine = c.in-Ok.is in
    let L = tells_lain _ _ _ _ _ _ _ _ c.requires.0 fine in
    let I = c.loop-j.invariant in
    let h = inside (tells_many _ _ _ _ _ _ _ _ c.requires.0 fine) c.loop-j-test.true in
    let w = putting_corners I _ _ _ _ _ _ _ L h _ _ _ refl refl refl in
    omega (arith, c.corners_of-c.ensures, w.0, w.1, putting_points I _ _ _ _ _ _ _ L h _ _ _ refl refl refl, (putting_seats I _ _ _ _ _ _ _ L h).0, c.well_formed)

pub overflow_add-f : goal.overflow_add-f
overflow_add-f c =
    let fine = c.in-Ok.is in
    let L = tells_lain _ _ _ _ _ _ _ _ c.requires.0 fine in
    let I = c.loop-j.invariant in
    let h = inside (tells_many _ _ _ _ _ _ _ _ c.requires.0 fine) c.loop-j-test.true in
    let w = putting_corners I _ _ _ _ _ _ _ L h _ _ _ refl refl refl in
    omega (arith, c.corners_of-c.ensures, w.0, w.1, putting_points I _ _ _ _ _ _ _ L h _ _ _ refl refl refl, (putting_seats I _ _ _ _ _ _ _ L h).0, c.well_formed)

pub loop-j-preserved : goal.loop-j-preserved
loop-j-preserved c =
    let fine = c.in-Ok.is in
    let L = tells_lain _ _ _ _ _ _ _ _ c.requires.0 fine in
    let I = c.loop-j.invariant in
    let h = inside (tells_many _ _ _ _ _ _ _ _ c.requires.0 fine) c.loop-j-test.true in
    putting_step I _ _ _ _ _ _ _ L h _ _ _ refl refl refl _ _ _ c.corners_of-c.ensures c.put_solid-at.ensures.out_after c.put_solid-at.ensures.value

pub shape_of-out : goal.shape_of-out
shape_of-out c =
    let fine = c.in-Ok.is in
    let L = tells_lain _ _ _ _ _ _ _ _ c.requires.0 fine in
    let I = c.loop-j.invariant in
    putting_size I _ _ _ _ _ _ _ L

pub returns : goal.returns
returns c = let fine = c.in-Ok.is in
    let L = tells_lain _ _ _ _ _ _ _ _ c.requires.0 fine in
    let I = c.loop-j.invariant in
    record { value = (ended_end _ _ _ _ _ _ _ _ c.requires.0 fine c.args.out.now c.loop-j.out c.loop-j.at (putting_end I _ _ _ _ _ _ _ L (outside (tells_many _ _ _ _ _ _ _ _ c.requires.0 fine) c.loop-j-test.false))).0; out_after = (ended_end _ _ _ _ _ _ _ _ c.requires.0 fine c.args.out.now c.loop-j.out c.loop-j.at (putting_end I _ _ _ _ _ _ _ L (outside (tells_many _ _ _ _ _ _ _ _ c.requires.0 fine) c.loop-j-test.false))).1 }
