use mathlib.Core.Path.{◌∙◌}
use Rattle.fused_answer.specs.Bodies.{body_room, body_put}
use native.Mathlib.Omega.{arith}
use Rattle.fused_answer.proofs.put_body.Goals as goal

pub put_count-requires : goal.put_count-requires
put_count-requires c =
    let a = c.args in
    let r = body_room a.s.now a.spots.now a.points.now a.v.now a.starts.now a.facets.now a.sizes.now a.from a.sat a.k c.requires.2 _ _ c.requires.4 in
    omega (arith, r)

pub overflow_add-at : goal.overflow_add-at
overflow_add-at c =
    let a = c.args in
    let r = body_room a.s.now a.spots.now a.points.now a.v.now a.starts.now a.facets.now a.sizes.now a.from a.sat a.k c.requires.2 _ _ c.requires.4 in
    omega (arith, r, c.well_formed.1.1.1.1.1.1.1.1.1.1.1.0)

pub put_shells-requires : goal.put_shells-requires
put_shells-requires c =
    let a = c.args in
    let r = body_room a.s.now a.spots.now a.points.now a.v.now a.starts.now a.facets.now a.sizes.now a.from a.sat a.k c.requires.2 _ _ c.requires.4 in
    let N = c.put_count in
    (c.requires.0, c.requires.1, c.requires.2, c.requires.3, omega (arith, r, N.auto.out))

pub shape_of-out : goal.shape_of-out
shape_of-out c =
    let a = c.args in
    let r = body_room a.s.now a.spots.now a.points.now a.v.now a.starts.now a.facets.now a.sizes.now a.from a.sat a.k c.requires.2 _ _ c.requires.4 in
    let N = c.put_count in
    let S = c.put_shells in
    S.auto.out ∙ N.auto.out

pub returns : goal.returns
returns c = let a = c.args in
    let r = body_room a.s.now a.spots.now a.points.now a.v.now a.starts.now a.facets.now a.sizes.now a.from a.sat a.k c.requires.2 _ _ c.requires.4 in
    let N = c.put_count in
    let S = c.put_shells in
    record { value = (body_put _ _ _ _ _ _ _ _ _ _ c.requires.2 _ _ _ _ _ N.ensures S.ensures.value S.ensures.out_after).0; out_after = (body_put _ _ _ _ _ _ _ _ _ _ c.requires.2 _ _ _ _ _ N.ensures S.ensures.value S.ensures.out_after).1 }
