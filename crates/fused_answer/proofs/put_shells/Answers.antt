use Rattle.fused_answer.specs.Bodies.{lent_in, shelling_start, shelling_fits, shelling_inside, shelling_turn, shelling_end}
use native.Mathlib.Omega.{arith}
use Rattle.fused_answer.proofs.put_shells.Goals as goal

pub loop-j-init : goal.loop-j-init
loop-j-init c =
    shelling_start _ _ _ _ _ _ _ _ _ _ _ _ c.requires.3

pub overflow_add-n : goal.overflow_add-n
overflow_add-n c =
    let L = c.loop-j in
    let h = c.loop-j-test.true in
    omega (arith, h, c.requires.2, c.well_formed.1.1.1.1.1.1.1.1.0)

pub offset_bounds-sizes-sat : goal.offset_bounds-sizes-sat
offset_bounds-sizes-sat c =
    let L = c.loop-j in
    let h = c.loop-j-test.true in
    omega (arith, h, c.requires.2, c.well_formed.1.1.1.1.1.1.1.1.0)

pub bounds-sizes-sat : goal.bounds-sizes-sat
bounds-sizes-sat c =
    let L = c.loop-j in
    let h = c.loop-j-test.true in
    omega (arith, h, c.requires.2)

pub overflow_add-q : goal.overflow_add-q
overflow_add-q c =
    let L = c.loop-j in
    let h = c.loop-j-test.true in
    let l = shelling_fits _ _ _ _ _ _ _ _ _ _ _ _ _ _ _ _ _ L.invariant h c.requires.2 in
    omega (arith, l, c.well_formed.1.1.1.1.1.1.0)

pub offset_bounds-facets-q : goal.offset_bounds-facets-q
offset_bounds-facets-q c =
    let L = c.loop-j in
    let h = c.loop-j-test.true in
    let l = shelling_fits _ _ _ _ _ _ _ _ _ _ _ _ _ _ _ _ _ L.invariant h c.requires.2 in
    omega (arith, l, c.well_formed.1.1.1.1.1.1.0)

pub slice_bounds-put_shell-count : goal.slice_bounds-put_shell-count
slice_bounds-put_shell-count c =
    let L = c.loop-j in
    let h = c.loop-j-test.true in
    let l = shelling_fits _ _ _ _ _ _ _ _ _ _ _ _ _ _ _ _ _ L.invariant h c.requires.2 in
    omega (arith, l)

pub slice_bounds-put_shell-start : goal.slice_bounds-put_shell-start
slice_bounds-put_shell-start c =
    let L = c.loop-j in
    let h = c.loop-j-test.true in
    let l = shelling_fits _ _ _ _ _ _ _ _ _ _ _ _ _ _ _ _ _ L.invariant h c.requires.2 in
    omega (arith, l)

pub slice_bounds-put_shell-end : goal.slice_bounds-put_shell-end
slice_bounds-put_shell-end c =
    let L = c.loop-j in
    let h = c.loop-j-test.true in
    let l = shelling_fits _ _ _ _ _ _ _ _ _ _ _ _ _ _ _ _ _ L.invariant h c.requires.2 in
    omega (arith, l)

pub put_shell-p-requires : goal.put_shell-p-requires
put_shell-p-requires c =
    let L = c.loop-j in
    let h = c.loop-j-test.true in
    let l = shelling_fits _ _ _ _ _ _ _ _ _ _ _ _ _ _ _ _ _ L.invariant h c.requires.2 in
    (c.requires.0, lent_in c.args.facets.now c.args.f _ _ l c.requires.1, shelling_inside _ _ _ _ _ _ _ _ _ _ _ _ _ _ _ _ _ L.invariant h c.requires.2 c.requires.4)

pub overflow_add-q-in-loop-j : goal.overflow_add-q-in-loop-j
overflow_add-q-in-loop-j c =
    let L = c.loop-j in
    let h = c.loop-j-test.true in
    let l = shelling_fits _ _ _ _ _ _ _ _ _ _ _ _ _ _ _ _ _ L.invariant h c.requires.2 in
    omega (arith, l, c.well_formed.1.1.1.1.1.1.0)

pub loop-j-preserved : goal.loop-j-preserved
loop-j-preserved c =
    let L = c.loop-j in
    let h = c.loop-j-test.true in
    let U = c.put_shell-p in
    shelling_turn _ _ _ _ _ _ _ _ _ _ _ _ _ _ _ _ _ L.invariant h c.requires.2 _ _ U.ensures.out_after U.ensures.value

pub shape_of-out : goal.shape_of-out
shape_of-out c = c.loop-j.invariant.same

pub returns : goal.returns
returns c = record { value = (shelling_end _ _ _ _ _ _ _ _ _ _ _ _ _ _ _ _ _ c.loop-j.invariant c.loop-j-test.false).0; out_after = (shelling_end _ _ _ _ _ _ _ _ _ _ _ _ _ _ _ _ _ c.loop-j.invariant c.loop-j-test.false).1 }
