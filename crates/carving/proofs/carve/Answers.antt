use borrow.Author.Tests.{not-true, not-false}
use Rattle.carving.specs.Laws.{carves_nothing, carves_cell, carves_refused}
use mathlib.Core.Path.{ap}
use mathlib.Core.Bool.{not}
use Rattle.carving.proofs.carve.Goals as goal

pub returns-then-not-some : goal.returns-then-not-some
returns-then-not-some c = carves_nothing _ _ _ _ _ _ _ _ _ c.requires.ready (not-true _ (ap not c.if-not-some.true))

pub carve_cell-requires : goal.carve_cell-requires
carve_cell-requires c = record { sits = (c.requires.ready.kept.sits (not-false _ (ap not c.if-not-some.false)), c.requires.ready.holds); place = c.requires.place }

pub shape_of-rest : goal.shape_of-rest
shape_of-rest c = c.carve_cell.auto.rest

pub shape_of-held : goal.shape_of-held
shape_of-held c = c.carve_cell.auto.held

pub shape_of-spare : goal.shape_of-spare
shape_of-spare c = c.carve_cell.auto.spare

pub shape_of-slots : goal.shape_of-slots
shape_of-slots c = c.carve_cell.auto.slots

pub shape_of-dst : goal.shape_of-dst
shape_of-dst c = c.carve_cell.auto.dst

pub shape_of-counts : goal.shape_of-counts
shape_of-counts c = c.carve_cell.auto.counts

pub shape_of-sizes : goal.shape_of-sizes
shape_of-sizes c = c.carve_cell.auto.sizes

pub shape_of-face : goal.shape_of-face
shape_of-face c = c.carve_cell.auto.face

pub shape_of-cap : goal.shape_of-cap
shape_of-cap c = c.carve_cell.auto.cap

pub shape_of-flat : goal.shape_of-flat
shape_of-flat c = c.carve_cell.auto.flat

pub shape_of-order : goal.shape_of-order
shape_of-order c = c.carve_cell.auto.order

pub shape_of-chain : goal.shape_of-chain
shape_of-chain c = c.carve_cell.auto.chain

pub returns-in-Ok : goal.returns-in-Ok
returns-in-Ok c = carves_cell _ _ _ _ _ _ _ _ _ c.requires.ready (not-false _ (ap not c.if-not-some.false)) _ _ _ _ _ _ _ _ c.opposite-o.ensures c.in-Ok.is c.carve_cell.ensures.ready c.carve_cell.ensures.sizes_after

pub returns-in-Err : goal.returns-in-Err
returns-in-Err c = carves_refused _ _ _ _ _ _ _ _ _ c.requires.ready (not-false _ (ap not c.if-not-some.false)) _ _ c.opposite-o.ensures c.in-Err.is
