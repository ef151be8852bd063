use mathlib.Core.Path.{sym}
use native.Mathlib.Omega.{arith}
use lib.Seq.{length-take-le}
use Rattle.fused_bytes.specs.Steps.{print_drawn, print_fits, print_refused, print_made}
use Rattle.fused_bytes.proofs.put_listing.Goals as goal

pub returns-in-Err : goal.returns-in-Err
returns-in-Err c = let a = c.args in
    record { value = (print_refused a.y a.d.now a.counts.now a.points.now a.cycles.now a.starts.now a.facets.now a.sizes.now a.shells.now a.spots.now a.out.now a.out.now _ c.in-Err.is).0; out_after = (print_refused a.y a.d.now a.counts.now a.points.now a.cycles.now a.starts.now a.facets.now a.sizes.now a.shells.now a.spots.now a.out.now a.out.now _ c.in-Err.is).1 }

pub plane_spots-requires : goal.plane_spots-requires
plane_spots-requires c =
    let a = c.args in
    let P = c.requires _ c.in-Ok.is in
    (P.counts, P.spotted, P.within)

pub overflow_mul-m : goal.overflow_mul-m
overflow_mul-m c =
    let a = c.args in
    let P = c.requires _ c.in-Ok.is in
    omega (arith, P.few)

pub slice_bounds-put_bodies-end : goal.slice_bounds-put_bodies-end
slice_bounds-put_bodies-end c =
    let a = c.args in
    let P = c.requires _ c.in-Ok.is in
    sym (length-take-le _ _ P.points)

pub slice_bounds-put_bodies-end-2 : goal.slice_bounds-put_bodies-end-2
slice_bounds-put_bodies-end-2 c =
    let a = c.args in
    let P = c.requires _ c.in-Ok.is in
    sym (length-take-le _ _ P.cycles)

pub overflow_add-f : goal.overflow_add-f
overflow_add-f c =
    let a = c.args in
    let P = c.requires _ c.in-Ok.is in
    omega (arith, P.low)

pub slice_bounds-put_bodies-end-3 : goal.slice_bounds-put_bodies-end-3
slice_bounds-put_bodies-end-3 c =
    let a = c.args in
    let P = c.requires _ c.in-Ok.is in
    sym (length-take-le _ _ (omega (arith, P.starts)))

pub slice_bounds-put_bodies-end-4 : goal.slice_bounds-put_bodies-end-4
slice_bounds-put_bodies-end-4 c =
    let a = c.args in
    let P = c.requires _ c.in-Ok.is in
    sym (length-take-le _ _ P.listed)

pub put_bodies-bytes-requires : goal.put_bodies-bytes-requires
put_bodies-bytes-requires c =
    let a = c.args in
    let P = c.requires _ c.in-Ok.is in
    let e = c.plane_spots.ensures in
    (print_drawn _ a.d.now a.counts.now a.points.now a.cycles.now a.starts.now a.facets.now a.sizes.now a.shells.now a.spots.now _ P e, P.inside, P.bodies, P.stacked, print_fits _ a.d.now a.counts.now a.points.now a.cycles.now a.starts.now a.facets.now a.sizes.now a.shells.now a.spots.now _ P e)

pub shape_of-spots : goal.shape_of-spots
shape_of-spots c = c.plane_spots.auto.spots

pub shape_of-out : goal.shape_of-out
shape_of-out c = c.put_bodies-bytes.auto.out

pub returns : goal.returns
returns c = let a = c.args in
    let g = c.put_bodies-bytes in
    record { value = (print_made a.y a.d.now a.counts.now a.points.now a.cycles.now a.starts.now a.facets.now a.sizes.now a.shells.now a.spots.now a.out.now _ _ _ _ c.in-Ok.is c.plane_spots.ensures g.ensures.value g.ensures.out_after).0; out_after = (print_made a.y a.d.now a.counts.now a.points.now a.cycles.now a.starts.now a.facets.now a.sizes.now a.shells.now a.spots.now a.out.now _ _ _ _ c.in-Ok.is c.plane_spots.ensures g.ensures.value g.ensures.out_after).1 }
