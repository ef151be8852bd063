use Rattle.stack.specs.Laws.{holds}
use Rattle.fuse_leaf.specs.Laws.{answer_fits, told_large, told_short, told_few, told_all}
use Rattle.fuse_leaf.proofs.leaf_fuse.Goals as goal

pub returns-then-limit-gt-ROOM : goal.returns-then-limit-gt-ROOM
returns-then-limit-gt-ROOM c = told_large _ _ _ _ _ _ _ c.if-limit-gt-ROOM.true

pub returns-then-answer-limit : goal.returns-then-answer-limit
returns-then-answer-limit c = told_short _ _ _ _ _ _ _ c.if-limit-gt-ROOM.false c.if-answer-limit.true

pub returns-then-sizes-limit : goal.returns-then-sizes-limit
returns-then-sizes-limit c = told_few _ _ _ _ _ _ _ c.if-limit-gt-ROOM.false c.if-answer-limit.false c.if-sizes-limit.true

pub fuse_here-e-requires : goal.fuse_here-e-requires
fuse_here-e-requires c =
    (holds _ _ _ _ _ _ c.list_in-list.ensures, c.if-limit-gt-ROOM.false, c.if-sizes-limit.false, answer_fits _ _ c.if-answer-limit.false)

pub shape_of-sizes : goal.shape_of-sizes
shape_of-sizes c = c.fuse_here-e.auto.sizes

pub shape_of-answer : goal.shape_of-answer
shape_of-answer c = c.fuse_here-e.auto.answer

pub returns : goal.returns
returns c =
    told_all _ _ _ _ _ _ _ c.if-limit-gt-ROOM.false c.if-answer-limit.false c.if-sizes-limit.false _ _ _ _ c.list_in-list.ensures (c.fuse_here-e.ensures.value, c.fuse_here-e.ensures.answer_after) c.number_by.ensures
