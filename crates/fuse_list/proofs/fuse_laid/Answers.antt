use Rattle.std.specs.Prelude.{◌≡◌, Err}
use Rattle.std.proofs.Common.{rules}
use mathlib.Core.Path.{refl, sym}
use native.Mathlib.Omega.{arith}
use lib.Seq.{length-take-le}
use Rattle.fuse_list.specs.Steps.{tools_bench, tools_places, tools_shelves, at_refused, at_made}
use Rattle.fuse_list.proofs.fuse_laid.Goals as goal

pub overflow_mul-m : goal.overflow_mul-m
overflow_mul-m c =
    let R = c.requires.0 _ c.in_ok-made.was in
    omega (arith, R.few)

pub slice_bounds-fuse-end : goal.slice_bounds-fuse-end
slice_bounds-fuse-end c =
    let R = c.requires.0 _ c.in_ok-made.was in
    sym (length-take-le _ _ R.points)

pub slice_bounds-fuse-end-2 : goal.slice_bounds-fuse-end-2
slice_bounds-fuse-end-2 c =
    let R = c.requires.0 _ c.in_ok-made.was in
    sym (length-take-le _ _ R.cycles)

pub overflow_add-f : goal.overflow_add-f
overflow_add-f c =
    let R = c.requires.0 _ c.in_ok-made.was in
    omega (arith, R.facets, c.requires.1.low)

pub slice_bounds-fuse-end-3 : goal.slice_bounds-fuse-end-3
slice_bounds-fuse-end-3 c =
    let R = c.requires.0 _ c.in_ok-made.was in
    sym (length-take-le _ _ (omega (arith, R.starts)))

pub slice_bounds-fuse-end-4 : goal.slice_bounds-fuse-end-4
slice_bounds-fuse-end-4 c =
    let R = c.requires.0 _ c.in_ok-made.was in
    sym (length-take-le _ _ R.owners)

pub fuse-requires : goal.fuse-requires
fuse-requires c = let R = c.requires.0 _ c.in_ok-made.was in
    record { facetted = R.facetted; bench = tools_bench R c.requires.1; places = (tools_places R c.requires.1, tools_shelves R c.requires.1) }

pub shape_of-ext : goal.shape_of-ext
shape_of-ext c = c.fuse.auto.ext

pub shape_of-cells : goal.shape_of-cells
shape_of-cells c = c.fuse.auto.cells

pub shape_of-cuts : goal.shape_of-cuts
shape_of-cuts c = c.fuse.auto.cuts

pub shape_of-faces : goal.shape_of-faces
shape_of-faces c = c.fuse.auto.faces

pub shape_of-d : goal.shape_of-d
shape_of-d c = c.fuse.auto.d

pub shape_of-k : goal.shape_of-k
shape_of-k c = c.fuse.auto.k

pub shape_of-s : goal.shape_of-s
shape_of-s c = c.fuse.auto.s

pub shape_of-ord : goal.shape_of-ord
shape_of-ord c = c.fuse.auto.ord

pub shape_of-ends : goal.shape_of-ends
shape_of-ends c = c.fuse.auto.ends

pub shape_of-nodes : goal.shape_of-nodes
shape_of-nodes c = c.fuse.auto.nodes

pub shape_of-marks : goal.shape_of-marks
shape_of-marks c = c.fuse.auto.marks

pub shape_of-out : goal.shape_of-out
shape_of-out c = c.fuse.auto.out

pub shape_of-sizes : goal.shape_of-sizes
shape_of-sizes c = c.fuse.auto.sizes

pub shape_of-shells : goal.shape_of-shells
shape_of-shells c = c.fuse.auto.shells

pub returns-in_err-made : goal.returns-in_err-made
returns-in_err-made c =
    let a = c.args in
    let told : c.from_residual.result ≡ Err c.in_err-made.field-0.0 = search rules in
    at_refused a.y a.n a.points.now a.cycles.now a.starts.now a.owners.now _ _ _ _ _ _ _ _ c.in_err-made.was told

pub returns : goal.returns
returns c =
    let a = c.args in
    at_made a.y _ a.n a.points.now a.cycles.now a.starts.now a.owners.now _ _ _ _ _ _ _ c.in_ok-made.was c.fuse.ensures
