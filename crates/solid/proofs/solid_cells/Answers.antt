use mathlib.Core.Path.{ap, ◌∙◌}
use native.Mathlib.Omega.{arith}
use Rattle.ended.specs.Ends.{told_by}
use Rattle.ended.specs.Laws.{told_of_lem}
use Rattle.solid.proofs.solid_cells.Goals as goal

pub told_by-requires : goal.told_by-requires
told_by-requires c = omega (arith, c.cells-done.ensures.value.1)

pub shape_of-rest : goal.shape_of-rest
shape_of-rest c = c.cells-done.auto.rest

pub shape_of-spare : goal.shape_of-spare
shape_of-spare c = c.cells-done.auto.spare

pub shape_of-dst : goal.shape_of-dst
shape_of-dst c = c.cells-done.auto.dst

pub shape_of-held : goal.shape_of-held
shape_of-held c = c.cells-done.auto.held

pub shape_of-slots : goal.shape_of-slots
shape_of-slots c = c.cells-done.auto.slots

pub shape_of-counts : goal.shape_of-counts
shape_of-counts c = c.cells-done.auto.counts

pub shape_of-sizes : goal.shape_of-sizes
shape_of-sizes c = c.cells-done.auto.sizes

pub shape_of-order : goal.shape_of-order
shape_of-order c = c.cells-done.auto.order

pub shape_of-chain : goal.shape_of-chain
shape_of-chain c = c.cells-done.auto.chain

pub shape_of-head : goal.shape_of-head
shape_of-head c = c.cells-done.auto.head

pub shape_of-seen : goal.shape_of-seen
shape_of-seen c = c.cells-done.auto.seen

pub shape_of-work : goal.shape_of-work
shape_of-work c = c.cells-done.auto.work

pub shape_of-nodes : goal.shape_of-nodes
shape_of-nodes c = c.cells-done.auto.nodes

pub shape_of-cuts : goal.shape_of-cuts
shape_of-cuts c = c.cells-done.auto.cuts

pub shape_of-answer : goal.shape_of-answer
shape_of-answer c = c.cells-done.auto.answer

pub returns : goal.returns
returns c =
    let e = c.cells-done.ensures in
    (c.told_by.ensures ∙ ap (λ x. told_by x.verdict x.bytes) e.value.0 ∙ told_of_lem _, (e.answer_after, e.cleared))
