use Rattle.clip.specs.Laws.{by_nothing, by_left, by_cut}
use Rattle.clip.proofs.clip_by.Goals as goal

pub returns-then-positive : goal.returns-then-positive
returns-then-positive c =
    by_cut _ _ _ _ _ _ _ _ _ _ _ _ c.answer.ensures _ _ c.if-negative.true c.if-positive.true c.cut_cell-r.ensures

pub left_cell-r-requires : goal.left_cell-r-requires
left_cell-r-requires c =
    record { listed = c.requires.0.listed; within = c.requires.0.within; place = c.requires.1.place; slots = c.requires.1.slots }

pub returns-then-negative : goal.returns-then-negative
returns-then-negative c =
    by_left _ _ _ _ _ _ _ _ _ _ _ _ c.answer-then-negative.ensures _ _ c.if-negative.true c.if-positive.false c.left_cell-r.ensures.stored

pub returns : goal.returns
returns c = by_nothing _ _ _ _ _ _ _ _ _ _ c.if-negative.false
