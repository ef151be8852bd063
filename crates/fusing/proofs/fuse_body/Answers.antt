use Rattle.std.specs.Prelude.{◌≡◌, Err}
use native.Mathlib.Omega.{arith}
use mathlib.Core.Path.{◌∙◌}
use lib.Seq.{length-take-le}
use Rattle.fusing.specs.Bench.{listed_owned, bench_faces, bench_room}
use Rattle.fusing.specs.Whole.{front_lent, whole_faced, whole_size, whole_few, whole_took, whole_spread, whole_stopped, whole_made}
use borrow.Author.Rules.{rules}
use Rattle.fusing.proofs.fuse_body.Goals as goal

pub body_edges-requires : goal.body_edges-requires
body_edges-requires c = let C = c.requires.points.1 in
    let x = c.requires.points.3 in
    record { starts = (C.fine, listed_owned _ _ _ _ _ C.fine x c.requires.points.2, bench_faces _ _ _ _ _ C.fine x _ _ _ _ _ _ _ _ c.requires.bench); room = bench_room _ _ _ _ _ C.fine x _ _ _ _ _ _ _ _ c.requires.bench }

pub returns-in_err-b : goal.returns-in_err-b
returns-in_err-b c =
    let B = c.body_edges in
    let told : c.from_residual.result ≡ Err c.in_err-b.field-0.0 = search rules in
    whole_stopped _ _ _ _ _ _ c.requires.points.1 c.requires.points.2 c.requires.points.3 _ _ _ B.ensures _ _ _ _ _ _ _ _ _ c.in_err-b.was told

pub slice_bounds-order_body-end : goal.slice_bounds-order_body-end
slice_bounds-order_body-end c =
    let B = c.body_edges in
    omega (arith, whole_few _ _ _ _ _ _ c.requires.points.1 c.requires.points.2 c.requires.points.3 _ _ _ B.ensures _ c.in_ok-b.was, c.requires.bench.faces, B.auto.faces)

pub slice_bounds-order_body-end-2 : goal.slice_bounds-order_body-end-2
slice_bounds-order_body-end-2 c =
    let B = c.body_edges in
    whole_took _ _ _ _ _ _ c.requires.points.1 c.requires.points.2 c.requires.points.3 _ _ _ B.ensures _ c.in_ok-b.was _ _ c.requires.bench.faces B.auto.faces

pub overflow_mul-p : goal.overflow_mul-p
overflow_mul-p c =
    let B = c.body_edges in
    let h = B.ensures.half _ c.in_ok-b.was in
    let g = c.well_formed.1.1.1.1.1.1.1.1.1.1.1.1.0 in
    let k = c.body_edges.auto.ends in
    search rules

pub slice_bounds-order_body-end-3 : goal.slice_bounds-order_body-end-3
slice_bounds-order_body-end-3 c =
    let B = c.body_edges in
    let h = B.ensures.half _ c.in_ok-b.was in
    omega (arith, h)

pub slice_bounds-order_body-end-4 : goal.slice_bounds-order_body-end-4
slice_bounds-order_body-end-4 c =
    let B = c.body_edges in
    let h = B.ensures.half _ c.in_ok-b.was in
    search (rules, length-take-le)

pub slice_bounds-order_body-end-5 : goal.slice_bounds-order_body-end-5
slice_bounds-order_body-end-5 c =
    let B = c.body_edges in
    omega (arith, whole_few _ _ _ _ _ _ c.requires.points.1 c.requires.points.2 c.requires.points.3 _ _ _ B.ensures _ c.in_ok-b.was, c.requires.bench.heads, B.auto.d)

pub slice_bounds-order_body-end-6 : goal.slice_bounds-order_body-end-6
slice_bounds-order_body-end-6 c =
    let B = c.body_edges in
    whole_took _ _ _ _ _ _ c.requires.points.1 c.requires.points.2 c.requires.points.3 _ _ _ B.ensures _ c.in_ok-b.was _ _ c.requires.bench.heads B.auto.d

pub slice_bounds-order_body-end-7 : goal.slice_bounds-order_body-end-7
slice_bounds-order_body-end-7 c =
    let B = c.body_edges in
    omega (arith, whole_few _ _ _ _ _ _ c.requires.points.1 c.requires.points.2 c.requires.points.3 _ _ _ B.ensures _ c.in_ok-b.was, c.requires.bench.flags, B.auto.s)

pub slice_bounds-order_body-end-8 : goal.slice_bounds-order_body-end-8
slice_bounds-order_body-end-8 c =
    let B = c.body_edges in
    whole_took _ _ _ _ _ _ c.requires.points.1 c.requires.points.2 c.requires.points.3 _ _ _ B.ensures _ c.in_ok-b.was _ _ c.requires.bench.flags B.auto.s

pub order_body-requires : goal.order_body-requires
order_body-requires c = let B = c.body_edges in
    let z = whole_size _ _ _ _ _ _ c.requires.points.1 c.requires.points.2 c.requires.points.3 _ _ _ B.ensures _ c.in_ok-b.was in
    record { points = (c.requires.points.0, whole_faced _ _ _ _ _ _ c.requires.points.1 c.requires.points.2 c.requires.points.3 _ _ _ B.ensures _ c.in_ok-b.was); spread = whole_spread _ _ _ _ _ _ c.requires.points.1 c.requires.points.2 c.requires.points.3 _ _ _ B.ensures _ c.in_ok-b.was _ _ _ _ _ _ _ _ c.requires.bench _ _ _ _ B.auto.faces B.auto.d B.auto.k B.auto.s B.auto.ord B.auto.ends; faces_in_bounds = (omega (arith, z, c.requires.cells_in_bounds.0), omega (arith, z, c.requires.cells_in_bounds.1)) }

pub shape_of-faces : goal.shape_of-faces
shape_of-faces c = c.body_edges.auto.faces

pub shape_of-d : goal.shape_of-d
shape_of-d c =
    let B = c.body_edges in
    let O = c.order_body in
    front_lent B.new.d O.new.head c.in_ok-b.b.faces _ O.auto.head B.auto.d

pub shape_of-k : goal.shape_of-k
shape_of-k c =
    let B = c.body_edges in
    let O = c.order_body in
    O.auto.next ∙ B.auto.k

pub shape_of-s : goal.shape_of-s
shape_of-s c =
    let B = c.body_edges in
    let O = c.order_body in
    front_lent B.new.s O.new.seen c.in_ok-b.b.faces _ O.auto.seen B.auto.s

pub shape_of-ord : goal.shape_of-ord
shape_of-ord c =
    let B = c.body_edges in
    let O = c.order_body in
    O.auto.work ∙ B.auto.ord

pub shape_of-ends : goal.shape_of-ends
shape_of-ends c = c.body_edges.auto.ends

pub shape_of-nodes : goal.shape_of-nodes
shape_of-nodes c = c.order_body.auto.nodes

pub shape_of-cuts : goal.shape_of-cuts
shape_of-cuts c = c.order_body.auto.cuts

pub shape_of-out : goal.shape_of-out
shape_of-out c = c.order_body.auto.out

pub shape_of-sizes : goal.shape_of-sizes
shape_of-sizes c = c.order_body.auto.sizes

pub returns : goal.returns
returns c =
    let B = c.body_edges in
    whole_made _ _ _ _ _ _ c.requires.points.1 c.requires.points.2 c.requires.points.3 _ _ _ B.ensures _ c.in_ok-b.was _ _ _ _ _ _ _ _ c.order_body.ensures
