use Rattle.std.specs.Prelude.{◌≡◌, Err}
use borrow.Author.Rules.{rules}
use mathlib.Core.Path.{refl, sym, ◌∙◌}
use lib.Seq.{length-take-le}
use Rattle.assembly.specs.Loop.{bench_on}
use Rattle.fuse.specs.Fusing.{cells_fine, cells_bodies, cells_facets, fused_refused, fused_made}
use Rattle.fuse.proofs.fuse.Goals as goal

pub part_cells-requires : goal.part_cells-requires
part_cells-requires c = let a = c.args in
    let G = c.requires.facetted in
    record { starts = (G.cycles.fine, G.owned, G.cells); places = c.requires.places.0 }

pub returns-in_err-p : goal.returns-in_err-p
returns-in_err-p c =
    let a = c.args in
    let G = c.requires.facetted in
    let told : c.from_residual.result ≡ Err c.in_err-p.field-0.0 = search rules in
    fused_refused a.v.now a.starts.now a.owners.now a.f a.n G.cycles.fine G.cells _ _ _ _ _ _ _ c.part_cells.ensures _ _ _ _ _ _ _ _ c.in_err-p.was told

pub slice_bounds-list_bodies-end : goal.slice_bounds-list_bodies-end
slice_bounds-list_bodies-end c =
    let a = c.args in
    let G = c.requires.facetted in
    let C = c.part_cells in
    let t = c.in_ok-p.was in
    C.ensures.few _ t

pub slice_bounds-list_bodies-end-2 : goal.slice_bounds-list_bodies-end-2
slice_bounds-list_bodies-end-2 c =
    let a = c.args in
    let G = c.requires.facetted in
    let C = c.part_cells in
    let t = c.in_ok-p.was in
    sym (length-take-le _ _ (C.ensures.few _ t))

pub list_bodies-requires : goal.list_bodies-requires
list_bodies-requires c = let a = c.args in
    let G = c.requires.facetted in
    let C = c.part_cells in
    let t = c.in_ok-p.was in
    let R = c.requires.places.1 in
    let g = C.ensures.groups _ t in
    record { points = (G.points, G.cycles, G.owned, C.ensures.listed _ t); bench = bench_on _ _ _ _ _ _ _ _ _ _ _ _ _ _ _ _ _ _ c.requires.bench (record { first = refl; second = C.auto.d; third = C.auto.k; fourth = C.auto.s; fifth = C.auto.ord; sixth = C.auto.ends; seventh = refl; eighth = refl }); starts = (cells_fine a.v.now a.starts.now a.owners.now a.f a.n G.cycles.fine G.cells _ _ _ _ _ g, cells_bodies a.v.now a.starts.now a.owners.now a.f a.n G.cycles.fine G.cells _ _ _ _ _ g _ R.bodies, cells_facets a.v.now a.starts.now a.owners.now a.f a.n G.cycles.fine G.cells _ _ _ _ _ g _ R.facets, cells_facets a.v.now a.starts.now a.owners.now a.f a.n G.cycles.fine G.cells _ _ _ _ _ g _ R.sizes) }

pub shape_of-ext : goal.shape_of-ext
shape_of-ext c = c.part_cells.auto.ext

pub shape_of-cells : goal.shape_of-cells
shape_of-cells c = c.part_cells.auto.cells

pub shape_of-cuts : goal.shape_of-cuts
shape_of-cuts c = c.part_cells.auto.cuts

pub shape_of-faces : goal.shape_of-faces
shape_of-faces c = c.list_bodies.auto.faces

pub shape_of-d : goal.shape_of-d
shape_of-d c = c.list_bodies.auto.d ∙ c.part_cells.auto.d

pub shape_of-k : goal.shape_of-k
shape_of-k c = c.list_bodies.auto.k ∙ c.part_cells.auto.k

pub shape_of-s : goal.shape_of-s
shape_of-s c = c.list_bodies.auto.s ∙ c.part_cells.auto.s

pub shape_of-ord : goal.shape_of-ord
shape_of-ord c = c.list_bodies.auto.ord ∙ c.part_cells.auto.ord

pub shape_of-ends : goal.shape_of-ends
shape_of-ends c = c.list_bodies.auto.ends ∙ c.part_cells.auto.ends

pub shape_of-nodes : goal.shape_of-nodes
shape_of-nodes c = c.list_bodies.auto.nodes

pub shape_of-marks : goal.shape_of-marks
shape_of-marks c = c.list_bodies.auto.marks

pub shape_of-out : goal.shape_of-out
shape_of-out c = c.list_bodies.auto.out

pub shape_of-sizes : goal.shape_of-sizes
shape_of-sizes c = c.list_bodies.auto.sizes

pub shape_of-shells : goal.shape_of-shells
shape_of-shells c = c.list_bodies.auto.shells

pub returns : goal.returns
returns c =
    let a = c.args in
    let G = c.requires.facetted in
    let C = c.part_cells in
    let B = c.list_bodies in
    let t = c.in_ok-p.was in
    fused_made a.v.now a.starts.now a.owners.now a.f a.n G.cycles.fine G.cells _ _ _ _ _ _ _ C.ensures _ _ _ _ _ _ _ _ t B.ensures
