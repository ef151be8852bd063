use mathlib.Core.Path.{refl, ◌∙◌}
use Prim.Native.Nat.{◌-◌}
use Rattle.splits.specs.Laws.{splitting_start, splitting_first, splitting_step, splitting_end, places_three, work_five}
use borrow.Author.Rules.{rules}
use native.Mathlib.Omega.{arith}
use Rattle.splits.proofs.split_list.Goals as goal

pub loop-i-init : goal.loop-i-init
loop-i-init c = (splitting_start _ _ _ _ _ _ _ _ _ _ _ _ c.requires.standing c.empty-s.ensures, record { dst = refl; counts = refl; sizes = refl }, record { face = refl; cap = refl; flat = refl; order = refl; chain = refl })

pub offset_bounds-faces-i : goal.offset_bounds-faces-i
offset_bounds-faces-i c = omega (arith, (splitting_first c.loop-i.invariant.0 c.loop-i-test.true).inside, c.well_formed)

pub bounds-faces-i : goal.bounds-faces-i
bounds-faces-i c = search (rules, (splitting_first c.loop-i.invariant.0 c.loop-i-test.true).inside)

pub split_cell-s-requires : goal.split_cell-s-requires
split_cell-s-requires c = record { given = ((splitting_first c.loop-i.invariant.0 c.loop-i-test.true).given, (splitting_first c.loop-i.invariant.0 c.loop-i-test.true).wide); holds = (c.loop-i.invariant.0.holds, places_three _ _ _ _ _ _ _ c.requires.places.0 c.loop-i.invariant.1, work_five _ _ _ _ _ _ _ _ _ _ c.requires.places.1 c.loop-i.invariant.2) }

pub passed-from-requires : goal.passed-from-requires
passed-from-requires c = (splitting_first c.loop-i.invariant.0 c.loop-i-test.true).given

pub overflow_add-j : goal.overflow_add-j
overflow_add-j c = omega (arith, (splitting_first c.loop-i.invariant.0 c.loop-i-test.true).given.listed, c.well_formed)

pub loop-i-preserved : goal.loop-i-preserved
loop-i-preserved c = (splitting_step c.loop-i.invariant.0 _ _ _ _ _ c.loop-i-test.true c.split_cell-s.ensures c.passed-from.ensures, record { dst = c.split_cell-s.auto.dst ∙ c.loop-i.invariant.1.dst; counts = c.split_cell-s.auto.counts ∙ c.loop-i.invariant.1.counts; sizes = c.split_cell-s.auto.sizes ∙ c.loop-i.invariant.1.sizes }, record { face = c.split_cell-s.auto.face ∙ c.loop-i.invariant.2.face; cap = c.split_cell-s.auto.cap ∙ c.loop-i.invariant.2.cap; flat = c.split_cell-s.auto.flat ∙ c.loop-i.invariant.2.flat; order = c.split_cell-s.auto.order ∙ c.loop-i.invariant.2.order; chain = c.split_cell-s.auto.chain ∙ c.loop-i.invariant.2.chain })

pub shape_of-dst : goal.shape_of-dst
shape_of-dst c = c.loop-i.invariant.1.dst

pub shape_of-counts : goal.shape_of-counts
shape_of-counts c = c.loop-i.invariant.1.counts

pub shape_of-sizes : goal.shape_of-sizes
shape_of-sizes c = c.loop-i.invariant.1.sizes

pub shape_of-face : goal.shape_of-face
shape_of-face c = c.loop-i.invariant.2.face

pub shape_of-cap : goal.shape_of-cap
shape_of-cap c = c.loop-i.invariant.2.cap

pub shape_of-flat : goal.shape_of-flat
shape_of-flat c = c.loop-i.invariant.2.flat

pub shape_of-order : goal.shape_of-order
shape_of-order c = c.loop-i.invariant.2.order

pub shape_of-chain : goal.shape_of-chain
shape_of-chain c = c.loop-i.invariant.2.chain

pub returns : goal.returns
returns c = splitting_end c.loop-i.invariant.0 c.loop-i-test.false
