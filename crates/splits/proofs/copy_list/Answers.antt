use Rattle.stack.specs.Laws.{numbers}
use Rattle.splits.specs.Laws.{list_placed}
use native.Mathlib.Omega.{arith}
use Rattle.splits.proofs.copy_list.Goals as goal

pub overflow_mul-f : goal.overflow_mul-f
overflow_mul-f c = let N = numbers _ _ _ _ _ _ c.requires.0 in omega (arith, N.fit, N.wide, N.some, c.requires.1.place, c.well_formed)

pub overflow_mul-n : goal.overflow_mul-n
overflow_mul-n c = let N = numbers _ _ _ _ _ _ c.requires.0 in omega (arith, N.fit, N.wide, N.some, c.requires.1.place, c.well_formed)

pub overflow_add-f : goal.overflow_add-f
overflow_add-f c = let N = numbers _ _ _ _ _ _ c.requires.0 in omega (arith, N.fit, N.wide, N.some, c.requires.1.place, c.well_formed)

pub copy_front-requires : goal.copy_front-requires
copy_front-requires c = let N = numbers _ _ _ _ _ _ c.requires.0 in (omega (arith, N.fit, N.wide, c.requires.1.place), omega (arith, N.fit, N.wide, c.requires.2.place))

pub copy_front-requires-2 : goal.copy_front-requires-2
copy_front-requires-2 c = let N = numbers _ _ _ _ _ _ c.requires.0 in (omega (arith, N.fit, N.wide, c.requires.1.slots), omega (arith, N.fit, N.wide, c.requires.2.slots))

pub copy_front-requires-3 : goal.copy_front-requires-3
copy_front-requires-3 c = let N = numbers _ _ _ _ _ _ c.requires.0 in (omega (arith, N.fit, N.wide, N.some, c.requires.1.seats), omega (arith, N.fit, N.wide, N.some, c.requires.2.seats))

pub returns : goal.returns
returns c = list_placed _ _ _ _ _ _ _ _ c.requires.0 c.requires.2 _ _ _ c.copy_front.ensures c.copy_front-2.ensures c.copy_front-3.ensures
