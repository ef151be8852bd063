use Rattle.std.specs.Prelude.{◌≡◌, Err}
use borrow.Author.Rules.{rules}
use native.Mathlib.Omega.{arith}
use mathlib.Core.Path.{sym, ◌∙◌}
use Prim.Native.Nat.{◌*◌}
use lib.Seq.{length-take-le, length_front}
use Rattle.edges.specs.Whole.{rims_ordered}
use Rattle.parts.specs.Cells.{keys_starts, keys_rows, part_refused, part_within, part_made}
use Rattle.parts.proofs.part_cells.Goals as goal

pub make_keys-requires : goal.make_keys-requires
make_keys-requires c =
    let a = c.args in
    let r = c.requires.places in
    (c.requires.starts.0, r.keys)

pub sort_keys-requires : goal.sort_keys-requires
sort_keys-requires c =
    let a = c.args in
    let r = c.requires.places in
    let K = c.make_keys in
    (keys_starts a.v.now a.starts.now a.owners.now a.f a.n _ _ c.requires.starts.0 r.keys K.auto.k, r.order)

pub meet_facets-requires : goal.meet_facets-requires
meet_facets-requires c = let a = c.args in
    let r = c.requires.places in
    let K = c.make_keys in
    let S = c.sort_keys in
    record { starts = (c.requires.starts.0, c.requires.starts.1, keys_starts a.v.now a.starts.now a.owners.now a.f a.n _ _ c.requires.starts.0 r.keys K.auto.k, rims_ordered _ _ _ _ _ r.order S.ensures); f_value = (keys_rows a.v.now a.starts.now a.owners.now a.f a.n _ _ K.ensures, r.listed, r.pairs) }

pub returns-in_err-m : goal.returns-in_err-m
returns-in_err-m c =
    let a = c.args in
    let told : c.from_residual.result ≡ Err c.in_err-m.field-0.0 = search rules in
    part_refused a.v.now a.starts.now a.owners.now a.f a.n _ _ _ c.meet_facets.ensures _ _ _ _ _ _ c.in_err-m.was told

pub overflow_mul-m : goal.overflow_mul-m
overflow_mul-m c =
    let a = c.args in
    let r = c.requires.places in
    let M = c.meet_facets in
    let t = c.in_ok-m.was in
    let h = M.ensures.half c.in_ok-m.m t in
    record { fits = omega (arith, h, M.auto.ends, c.well_formed.1.1.1.1.1.1.1.1.0) }

pub slice_bounds-components-end : goal.slice_bounds-components-end
slice_bounds-components-end c =
    let a = c.args in
    let r = c.requires.places in
    let M = c.meet_facets in
    let t = c.in_ok-m.was in
    let h = M.ensures.half c.in_ok-m.m t in
    h

pub slice_bounds-components-end-2 : goal.slice_bounds-components-end-2
slice_bounds-components-end-2 c =
    let a = c.args in
    let r = c.requires.places in
    let M = c.meet_facets in
    let t = c.in_ok-m.was in
    let h = M.ensures.half c.in_ok-m.m t in
    sym (length-take-le _ _ h)

pub slice_bounds-components-end-3 : goal.slice_bounds-components-end-3
slice_bounds-components-end-3 c =
    let a = c.args in
    let r = c.requires.places in
    r.heads

pub slice_bounds-components-end-4 : goal.slice_bounds-components-end-4
slice_bounds-components-end-4 c =
    let a = c.args in
    let r = c.requires.places in
    sym (length-take-le _ _ r.heads)

pub slice_bounds-components-end-5 : goal.slice_bounds-components-end-5
slice_bounds-components-end-5 c =
    let a = c.args in
    let r = c.requires.places in
    r.flags

pub slice_bounds-components-end-6 : goal.slice_bounds-components-end-6
slice_bounds-components-end-6 c =
    let a = c.args in
    let r = c.requires.places in
    sym (length-take-le _ _ r.flags)

pub components-groups-requires : goal.components-groups-requires
components-groups-requires c = let a = c.args in
    let r = c.requires.places in
    let K = c.make_keys in
    let S = c.sort_keys in
    let M = c.meet_facets in
    let t = c.in_ok-m.was in
    let h = M.ensures.half c.in_ok-m.m t in
    let e = length-take-le (2 * c.in_ok-m.m.pairs) M.new.ends h in
    let l = length-take-le a.n a.d.now r.heads in
    let s = length-take-le a.n a.s.now r.flags in
    record { within = (part_within a.v.now a.starts.now a.owners.now a.f a.n _ _ _ M.ensures c.in_ok-m.m t _ r.flags c.requires.starts.2, l ∙ sym s, omega (arith, e, h, M.auto.ends, K.auto.k, r.links)); seen_in_bounds = (omega (arith, s, r.cuts), omega (arith, s, r.stack, S.auto.ord), omega (arith, s, r.cells)) }

pub shape_of-k : goal.shape_of-k
shape_of-k c =
    let a = c.args in
    let r = c.requires.places in
    let K = c.make_keys in
    let C = c.components-groups in
    C.auto.next ∙ K.auto.k

pub shape_of-ord : goal.shape_of-ord
shape_of-ord c =
    let a = c.args in
    let r = c.requires.places in
    let S = c.sort_keys in
    let C = c.components-groups in
    C.auto.work ∙ S.auto.ord

pub shape_of-ext : goal.shape_of-ext
shape_of-ext c = c.meet_facets.auto.ext

pub shape_of-ends : goal.shape_of-ends
shape_of-ends c = c.meet_facets.auto.ends

pub shape_of-d : goal.shape_of-d
shape_of-d c =
    let a = c.args in
    let r = c.requires.places in
    let C = c.components-groups in
    length_front a.d.now C.new.head a.n C.auto.head

pub shape_of-s : goal.shape_of-s
shape_of-s c =
    let a = c.args in
    let r = c.requires.places in
    let C = c.components-groups in
    length_front a.s.now C.new.seen a.n C.auto.seen

pub shape_of-cells : goal.shape_of-cells
shape_of-cells c = c.components-groups.auto.nodes

pub shape_of-cuts : goal.shape_of-cuts
shape_of-cuts c = c.components-groups.auto.cuts

pub returns : goal.returns
returns c =
    let a = c.args in
    let r = c.requires.places in
    let M = c.meet_facets in
    let C = c.components-groups in
    let t = c.in_ok-m.was in
    part_made a.v.now a.starts.now a.owners.now a.f a.n _ _ _ M.ensures c.in_ok-m.m t a.s.now r.flags _ _ _ _ _ C.ensures.classes
