use mathlib.Core.Path.{◌∙◌}
use Rattle.fused_answer.specs.Laws.{facet_room, facet_within, facet_end, facet_put}
use native.Mathlib.Omega.{arith}
use Rattle.fused_answer.proofs.put_facet.Goals as goal

pub offset_bounds-spots-i : goal.offset_bounds-spots-i
offset_bounds-spots-i c =
    let D = c.requires.0 in
    let h = c.requires.1 in
    omega (arith, h, D.many, c.well_formed.1.0)

pub bounds-spots-i : goal.bounds-spots-i
bounds-spots-i c =
    let D = c.requires.0 in
    let h = c.requires.1 in
    omega (arith, h, D.many)

pub get_plane-w-requires : goal.get_plane-w-requires
get_plane-w-requires c =
    let D = c.requires.0 in
    let h = c.requires.1 in
    D.planes _ h

pub offset_bounds-starts-i : goal.offset_bounds-starts-i
offset_bounds-starts-i c =
    let D = c.requires.0 in
    let h = c.requires.1 in
    omega (arith, h, D.fine.many, c.well_formed.1.1.1.1.0)

pub bounds-starts-i : goal.bounds-starts-i
bounds-starts-i c =
    let D = c.requires.0 in
    let h = c.requires.1 in
    omega (arith, h, D.fine.many)

pub overflow_add-n : goal.overflow_add-n
overflow_add-n c =
    let D = c.requires.0 in
    let h = c.requires.1 in
    omega (arith, h, D.fine.many, c.well_formed.1.1.1.1.0)

pub offset_bounds-starts-i-2 : goal.offset_bounds-starts-i-2
offset_bounds-starts-i-2 c =
    let D = c.requires.0 in
    let h = c.requires.1 in
    omega (arith, h, D.fine.many, c.well_formed.1.1.1.1.0)

pub bounds-starts-i-2 : goal.bounds-starts-i-2
bounds-starts-i-2 c =
    let D = c.requires.0 in
    let h = c.requires.1 in
    omega (arith, h, D.fine.many)

pub overflow_sub-n : goal.overflow_sub-n
overflow_sub-n c =
    let D = c.requires.0 in
    let h = c.requires.1 in
    D.fine.up _ h

pub put_plane-requires : goal.put_plane-requires
put_plane-requires c =
    let D = c.requires.0 in
    let h = c.requires.1 in
    let r = facet_room _ _ _ _ _ _ D _ h _ _ c.requires.2 in
    omega (arith, r)

pub overflow_add-at : goal.overflow_add-at
overflow_add-at c =
    let D = c.requires.0 in
    let h = c.requires.1 in
    let r = facet_room _ _ _ _ _ _ D _ h _ _ c.requires.2 in
    omega (arith, r, c.well_formed.1.1.1.1.1.1.1.0)

pub put_count-requires : goal.put_count-requires
put_count-requires c =
    let D = c.requires.0 in
    let h = c.requires.1 in
    let r = facet_room _ _ _ _ _ _ D _ h _ _ c.requires.2 in
    let P = c.put_plane in
    omega (arith, r, P.auto.out)

pub overflow_add-at-2 : goal.overflow_add-at-2
overflow_add-at-2 c =
    let D = c.requires.0 in
    let h = c.requires.1 in
    let r = facet_room _ _ _ _ _ _ D _ h _ _ c.requires.2 in
    omega (arith, r, c.well_formed.1.1.1.1.1.1.1.0)

pub put_corners-requires : goal.put_corners-requires
put_corners-requires c =
    let D = c.requires.0 in
    let h = c.requires.1 in
    let r = facet_room _ _ _ _ _ _ D _ h _ _ c.requires.2 in
    let P = c.put_plane in
    let N = c.put_count in
    (D.points, facet_within _ _ _ _ _ _ D _ h, omega (arith, r, P.auto.out, N.auto.out))

pub overflow_add-result : goal.overflow_add-result
overflow_add-result c =
    let D = c.requires.0 in
    let h = c.requires.1 in
    let r = facet_room _ _ _ _ _ _ D _ h _ _ c.requires.2 in
    omega (arith, r, c.well_formed.1.1.1.1.1.1.1.0)

pub overflow_mul-result : goal.overflow_mul-result
overflow_mul-result c =
    let D = c.requires.0 in
    let h = c.requires.1 in
    let r = facet_room _ _ _ _ _ _ D _ h _ _ c.requires.2 in
    omega (arith, r, c.well_formed.1.1.1.1.1.1.1.0)

pub overflow_add-result-2 : goal.overflow_add-result-2
overflow_add-result-2 c =
    let D = c.requires.0 in
    let h = c.requires.1 in
    let r = facet_room _ _ _ _ _ _ D _ h _ _ c.requires.2 in
    omega (arith, r, c.well_formed.1.1.1.1.1.1.1.0)

pub shape_of-out : goal.shape_of-out
shape_of-out c =
    let D = c.requires.0 in
    let h = c.requires.1 in
    let P = c.put_plane in
    let N = c.put_count in
    let C = c.put_corners in
    C.auto.out ∙ N.auto.out ∙ P.auto.out

pub returns : goal.returns
returns c = let D = c.requires.0 in
    let h = c.requires.1 in
    let W = c.get_plane-w in
    let P = c.put_plane in
    let N = c.put_count in
    let C = c.put_corners in
    record { value = facet_end _ _ _ _ _ _ D _ h _; out_after = facet_put _ _ _ _ _ _ D _ h _ _ _ _ _ _ W.ensures P.ensures N.ensures C.ensures }
