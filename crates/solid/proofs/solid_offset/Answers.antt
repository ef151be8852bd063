use Rattle.solid.proofs.solid_offset.Goals as goal

pub shape_of-s : goal.shape_of-s
shape_of-s c = c.offset.auto.s

pub shape_of-counts : goal.shape_of-counts
shape_of-counts c = c.offset.auto.counts

pub shape_of-dst : goal.shape_of-dst
shape_of-dst c = c.offset.auto.dst

pub shape_of-sizes : goal.shape_of-sizes
shape_of-sizes c = c.offset.auto.sizes

pub shape_of-answer : goal.shape_of-answer
shape_of-answer c = c.offset.auto.answer

pub returns : goal.returns
returns c = (c.offset.ensures.value, (c.offset.ensures.answer_after, c.offset.ensures.cleared))
