use Rattle.fused_answer.specs.Bodies.{bodying_start, bodying_shells, bodying_placing, bodying_inside, bodying_turn, bodying_end}
use native.Mathlib.Omega.{arith}
use Rattle.fused_answer.proofs.put_bodies.Goals as goal

pub loop-i-init : goal.loop-i-init
loop-i-init c =
    bodying_start _ _ _ _ _ _ _ _ _ _ _ c.requires.3

pub offset_bounds-shells-i : goal.offset_bounds-shells-i
offset_bounds-shells-i c =
    let L = c.loop-i in
    let h = c.loop-i-test.true in
    omega (arith, h, c.requires.2, c.well_formed.1.1.1.1.1.1.1.1.0)

pub bounds-shells-i : goal.bounds-shells-i
bounds-shells-i c =
    let L = c.loop-i in
    let h = c.loop-i-test.true in
    omega (arith, h, c.requires.2)

pub put_body-w-requires : goal.put_body-w-requires
put_body-w-requires c =
    let L = c.loop-i in
    let h = c.loop-i-test.true in
    (c.requires.0, c.requires.1, bodying_shells _ _ _ _ _ _ _ _ _ _ _ _ _ _ _ _ L.invariant h c.requires.2, bodying_placing _ _ _ _ _ _ _ _ _ _ _ _ _ _ _ _ L.invariant h c.requires.2, bodying_inside _ _ _ _ _ _ _ _ _ _ _ _ _ _ _ _ L.invariant h c.requires.2 c.requires.4)

pub overflow_add-j : goal.overflow_add-j
overflow_add-j c =
    let L = c.loop-i in
    let h = c.loop-i-test.true in
    omega (arith, bodying_shells _ _ _ _ _ _ _ _ _ _ _ _ _ _ _ _ L.invariant h c.requires.2, c.well_formed.1.1.1.1.1.1.1.0)

pub loop-i-preserved : goal.loop-i-preserved
loop-i-preserved c =
    let L = c.loop-i in
    let h = c.loop-i-test.true in
    let U = c.put_body-w in
    bodying_turn _ _ _ _ _ _ _ _ _ _ _ _ _ _ _ _ L.invariant h c.requires.2 _ _ U.ensures.out_after U.ensures.value

pub shape_of-out : goal.shape_of-out
shape_of-out c = c.loop-i.invariant.same

pub returns : goal.returns
returns c = record { value = (bodying_end _ _ _ _ _ _ _ _ _ _ _ _ _ _ _ _ c.loop-i.invariant c.loop-i-test.false).0; out_after = (bodying_end _ _ _ _ _ _ _ _ _ _ _ _ _ _ _ _ c.loop-i.invariant c.loop-i-test.false).1 }
