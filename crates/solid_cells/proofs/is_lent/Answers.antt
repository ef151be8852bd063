use native.Mathlib.Omega.{arith}
use Rattle.solid_cells.specs.Laws.{lends_not, lends_rest}
use Rattle.solid_cells.proofs.is_lent.Goals as goal

pub returns-then-room-gt4294967296 : goal.returns-then-room-gt4294967296
returns-then-room-gt4294967296 c = let A = c.args in lends_not A.room A.answer A.rest A.spare A.dst A.held A.slots A.counts A.sizes A.order A.chain A.head A.seen A.work A.nodes A.cuts c.if-room-gt4294967296.true

pub overflow_mul-floats : goal.overflow_mul-floats
overflow_mul-floats c = omega (arith, c.if-room-gt4294967296.false)

pub overflow_add-floats : goal.overflow_add-floats
overflow_add-floats c = omega (arith, c.if-room-gt4294967296.false)

pub overflow_mul-floats-2 : goal.overflow_mul-floats-2
overflow_mul-floats-2 c = omega (arith, c.if-room-gt4294967296.false)

pub overflow_add-floats-2 : goal.overflow_add-floats-2
overflow_add-floats-2 c = omega (arith, c.if-room-gt4294967296.false)

pub overflow_mul-floats-3 : goal.overflow_mul-floats-3
overflow_mul-floats-3 c = omega (arith, c.if-room-gt4294967296.false)

pub overflow_add-floats-3 : goal.overflow_add-floats-3
overflow_add-floats-3 c = omega (arith, c.if-room-gt4294967296.false)

pub overflow_add-list : goal.overflow_add-list
overflow_add-list c = omega (arith, c.if-room-gt4294967296.false)

pub overflow_add-list-2 : goal.overflow_add-list-2
overflow_add-list-2 c = omega (arith, c.if-room-gt4294967296.false)

pub overflow_add-list-3 : goal.overflow_add-list-3
overflow_add-list-3 c = omega (arith, c.if-room-gt4294967296.false)

pub overflow_mul-cut : goal.overflow_mul-cut
overflow_mul-cut c = omega (arith, c.if-room-gt4294967296.false)

pub overflow_add-cut : goal.overflow_add-cut
overflow_add-cut c = omega (arith, c.if-room-gt4294967296.false)

pub overflow_mul-cut-2 : goal.overflow_mul-cut-2
overflow_mul-cut-2 c = omega (arith, c.if-room-gt4294967296.false)

pub overflow_add-cut-2 : goal.overflow_add-cut-2
overflow_add-cut-2 c = omega (arith, c.if-room-gt4294967296.false)

pub returns : goal.returns
returns c = let A = c.args in lends_rest A.room A.answer A.rest A.spare A.dst A.held A.slots A.counts A.sizes A.order A.chain A.head A.seen A.work A.nodes A.cuts c.if-room-gt4294967296.false
