use native.Mathlib.Omega.{arith}
use Rattle.fuse_lent.specs.Laws.{lends_not, lends_rest}
use Rattle.fuse_lent.proofs.is_lent.Goals as goal

pub returns-then-room-gt4294967296 : goal.returns-then-room-gt4294967296
returns-then-room-gt4294967296 c = let A = c.args in lends_not A.room A.answer A.rest A.spare A.dst A.held A.slots A.counts A.sizes A.seats A.lengths A.owners A.cells A.cuts A.runs A.keys A.begins A.ord A.ends A.marks A.out A.many A.shells c.if-room-gt4294967296.true

pub overflow_mul-floats : goal.overflow_mul-floats
overflow_mul-floats c = omega (arith, c.if-room-gt4294967296.false)

pub overflow_add-floats : goal.overflow_add-floats
overflow_add-floats c = omega (arith, c.if-room-gt4294967296.false)

pub overflow_mul-floats-2 : goal.overflow_mul-floats-2
overflow_mul-floats-2 c = omega (arith, c.if-room-gt4294967296.false)

pub overflow_add-floats-2 : goal.overflow_add-floats-2
overflow_add-floats-2 c = omega (arith, c.if-room-gt4294967296.false)

pub overflow_mul-floats-3 : goal.overflow_mul-floats-3
overflow_mul-floats-3 c = omega (arith, c.if-room-gt4294967296.false)

pub overflow_add-floats-3 : goal.overflow_add-floats-3
overflow_add-floats-3 c = omega (arith, c.if-room-gt4294967296.false)

pub overflow_add-list : goal.overflow_add-list
overflow_add-list c = omega (arith, c.if-room-gt4294967296.false)

pub overflow_add-list-2 : goal.overflow_add-list-2
overflow_add-list-2 c = omega (arith, c.if-room-gt4294967296.false)

pub overflow_add-list-3 : goal.overflow_add-list-3
overflow_add-list-3 c = omega (arith, c.if-room-gt4294967296.false)

pub overflow_mul-sorting : goal.overflow_mul-sorting
overflow_mul-sorting c = omega (arith, c.if-room-gt4294967296.false)

pub overflow_mul-sorting-2 : goal.overflow_mul-sorting-2
overflow_mul-sorting-2 c = omega (arith, c.if-room-gt4294967296.false)

pub returns : goal.returns
returns c = let A = c.args in lends_rest A.room A.answer A.rest A.spare A.dst A.held A.slots A.counts A.sizes A.seats A.lengths A.owners A.cells A.cuts A.runs A.keys A.begins A.ord A.ends A.marks A.out A.many A.shells c.if-room-gt4294967296.false
