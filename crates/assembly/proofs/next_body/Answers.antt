use Rattle.std.specs.Prelude.{◌≡◌, Err}
use borrow.Author.Rules.{rules}
use native.Mathlib.Omega.{arith}
use mathlib.Core.Path.{refl}
use Rattle.interfaces.specs.Facets.{facets_of}
use Rattle.assembly.specs.Walk.{no_fewer}
use Rattle.assembly.specs.Loop.{step_room, stepped, step_refused}
use Rattle.assembly.proofs.next_body.Goals as goal

pub offset_bounds-cells-a : goal.offset_bounds-cells-a
offset_bounds-cells-a c =
    let w = c.requires.starts.0 in
    let h = c.requires.starts.1 in
    let u = w.up c.args.i h in
    let l = w.inn c.args.i h in
    let g = c.well_formed.1.1.1.1.1.1.0 in
    record { fits = omega (arith, u, l, g) }

pub slice_bounds-fuse_body-count : goal.slice_bounds-fuse_body-count
slice_bounds-fuse_body-count c =
    let w = c.requires.starts.0 in
    let h = c.requires.starts.1 in
    let u = w.up c.args.i h in
    let l = w.inn c.args.i h in
    omega (arith, u, l)

pub slice_bounds-fuse_body-start : goal.slice_bounds-fuse_body-start
slice_bounds-fuse_body-start c =
    let w = c.requires.starts.0 in
    let h = c.requires.starts.1 in
    let u = w.up c.args.i h in
    let l = w.inn c.args.i h in
    omega (arith, u, l)

pub slice_bounds-fuse_body-end : goal.slice_bounds-fuse_body-end
slice_bounds-fuse_body-end c =
    let w = c.requires.starts.0 in
    let h = c.requires.starts.1 in
    let u = w.up c.args.i h in
    let l = w.inn c.args.i h in
    omega (arith, u, l)

pub fuse_body-requires : goal.fuse_body-requires
fuse_body-requires c = let w = c.requires.starts.0 in
    let h = c.requires.starts.1 in
    let a = c.args in
    let fs = facets_of a.v.now a.starts.now a.owners.now a.f in
    record { points = c.requires.points; bench = c.requires.bench; cells_in_bounds = (step_room fs _ _ _ _ w h _ _ c.requires.starts.3, step_room fs _ _ _ _ w h _ _ c.requires.starts.4) }

pub overflow_sub-shells : goal.overflow_sub-shells
overflow_sub-shells c =
    let F = c.fuse_body in
    omega (arith, no_fewer _ _ _ _ _ _ _ _ _ _ F.ensures c.in_ok-r.was)

pub offset_bounds-shells-i : goal.offset_bounds-shells-i
offset_bounds-shells-i c =
    let w = c.requires.starts.0 in
    let h = c.requires.starts.1 in
    record { fits = omega (arith, c.requires.starts.2, c.well_formed.1.1.1.1.1.1.1.1.1.1.1.1.1.1.1.1.1.1.1.1.1.0) }

pub bounds-shells-i : goal.bounds-shells-i
bounds-shells-i c =
    let w = c.requires.starts.0 in
    let h = c.requires.starts.1 in
    c.requires.starts.2

pub returns-in_err-r : goal.returns-in_err-r
returns-in_err-r c =
    let told : c.from_residual.result ≡ Err c.in_err-r.field-0.0 = search rules in
    step_refused _ _ _ _ _ c.requires.starts.0 c.requires.starts.1 _ _ _ _ _ _ _ _ _ _ _ c.fuse_body.ensures c.in_err-r.was told

pub shape_of-faces : goal.shape_of-faces
shape_of-faces c = c.fuse_body.auto.faces

pub shape_of-d : goal.shape_of-d
shape_of-d c = c.fuse_body.auto.d

pub shape_of-k : goal.shape_of-k
shape_of-k c = c.fuse_body.auto.k

pub shape_of-s : goal.shape_of-s
shape_of-s c = c.fuse_body.auto.s

pub shape_of-ord : goal.shape_of-ord
shape_of-ord c = c.fuse_body.auto.ord

pub shape_of-ends : goal.shape_of-ends
shape_of-ends c = c.fuse_body.auto.ends

pub shape_of-nodes : goal.shape_of-nodes
shape_of-nodes c = c.fuse_body.auto.nodes

pub shape_of-marks : goal.shape_of-marks
shape_of-marks c = c.fuse_body.auto.cuts

pub shape_of-out : goal.shape_of-out
shape_of-out c = c.fuse_body.auto.out

pub shape_of-sizes : goal.shape_of-sizes
shape_of-sizes c = c.fuse_body.auto.sizes

pub returns : goal.returns
returns c =
    let w = c.requires.starts.0 in
    let h = c.requires.starts.1 in
    let F = c.fuse_body in
    stepped _ _ _ _ _ w h _ _ _ _ _ _ _ _ _ _ _ F.ensures c.in_ok-r.was refl
