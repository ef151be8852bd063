use mathlib.Core.Path.{refl, sym, ◌∙◌}
use Prim.Native.Nat.{◌-◌}
use Rattle.splits.specs.Laws.{cutting_start, cutting_step, cutting_end, places_three}
use native.Mathlib.Omega.{arith}
use Rattle.splits.proofs.split_cells.Goals as goal

pub loop-i-init : goal.loop-i-init
loop-i-init c = (cutting_start _ _ _ _ _ _ _ _ c.requires.n_in_bounds.1, record { dst = refl; counts = refl; sizes = refl }, record { dst = refl; counts = refl; sizes = refl }, refl, refl, refl, refl, refl)

pub overflow_mul-i : goal.overflow_mul-i
overflow_mul-i c = omega (arith, c.requires.n_in_bounds.0, c.loop-i-test.true, c.well_formed)

pub get_plane-w-requires : goal.get_plane-w-requires
get_plane-w-requires c = omega (arith, c.requires.n_in_bounds.0, c.loop-i-test.true)

pub slice_bounds-split_plane-end : goal.slice_bounds-split_plane-end
slice_bounds-split_plane-end c = sym c.loop-i.invariant.3

pub slice_bounds-split_plane-end-in-loop-i : goal.slice_bounds-split_plane-end-in-loop-i
slice_bounds-split_plane-end-in-loop-i c = sym c.loop-i.invariant.4

pub slice_bounds-split_plane-end-in-loop-i-2 : goal.slice_bounds-split_plane-end-in-loop-i-2
slice_bounds-split_plane-end-in-loop-i-2 c = sym c.loop-i.invariant.5

pub slice_bounds-split_plane-end-in-loop-i-3 : goal.slice_bounds-split_plane-end-in-loop-i-3
slice_bounds-split_plane-end-in-loop-i-3 c = sym c.loop-i.invariant.6

pub slice_bounds-split_plane-end-in-loop-i-4 : goal.slice_bounds-split_plane-end-in-loop-i-4
slice_bounds-split_plane-end-in-loop-i-4 c = sym c.loop-i.invariant.7

pub split_plane-s-requires : goal.split_plane-s-requires
split_plane-s-requires c = record { holds = (c.loop-i.invariant.0.holds, places_three _ _ _ _ _ _ _ c.requires.n_in_bounds.2 c.loop-i.invariant.1); places = (places_three _ _ _ _ _ _ _ c.requires.places c.loop-i.invariant.2, record { face_fits = omega (arith, c.loop-i.invariant.3); cap_fits = omega (arith, c.loop-i.invariant.4); hulls = record { flat_fits = omega (arith, c.loop-i.invariant.5); order_fits = omega (arith, c.loop-i.invariant.6); chain_fits = omega (arith, c.loop-i.invariant.7) } }) }

pub loop-i-preserved : goal.loop-i-preserved
loop-i-preserved c = (cutting_step c.loop-i.invariant.0 _ _ _ _ _ c.loop-i-test.true c.get_plane-w.ensures c.split_plane-s.ensures, record { dst = c.split_plane-s.auto.dst ∙ c.loop-i.invariant.1.dst; counts = c.split_plane-s.auto.counts ∙ c.loop-i.invariant.1.counts; sizes = c.split_plane-s.auto.sizes ∙ c.loop-i.invariant.1.sizes }, record { dst = c.split_plane-s.auto.spare ∙ c.loop-i.invariant.2.dst; counts = c.split_plane-s.auto.slots ∙ c.loop-i.invariant.2.counts; sizes = c.split_plane-s.auto.seats ∙ c.loop-i.invariant.2.sizes }, c.split_plane-s.auto.face ∙ c.loop-i.invariant.3, c.split_plane-s.auto.cap ∙ c.loop-i.invariant.4, c.split_plane-s.auto.flat ∙ c.loop-i.invariant.5, c.split_plane-s.auto.order ∙ c.loop-i.invariant.6, c.split_plane-s.auto.chain ∙ c.loop-i.invariant.7)

pub shape_of-dst : goal.shape_of-dst
shape_of-dst c = c.loop-i.invariant.1.dst

pub shape_of-counts : goal.shape_of-counts
shape_of-counts c = c.loop-i.invariant.1.counts

pub shape_of-sizes : goal.shape_of-sizes
shape_of-sizes c = c.loop-i.invariant.1.sizes

pub shape_of-spare : goal.shape_of-spare
shape_of-spare c = c.loop-i.invariant.2.dst

pub shape_of-slots : goal.shape_of-slots
shape_of-slots c = c.loop-i.invariant.2.counts

pub shape_of-seats : goal.shape_of-seats
shape_of-seats c = c.loop-i.invariant.2.sizes

pub returns : goal.returns
returns c = cutting_end c.loop-i.invariant.0 c.loop-i-test.false
