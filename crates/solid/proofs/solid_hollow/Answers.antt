use Rattle.solid.proofs.solid_hollow.Goals as goal

pub shape_of-s : goal.shape_of-s
shape_of-s c = c.hollow.auto.s

pub shape_of-counts : goal.shape_of-counts
shape_of-counts c = c.hollow.auto.counts

pub shape_of-dst : goal.shape_of-dst
shape_of-dst c = c.hollow.auto.dst

pub shape_of-sizes : goal.shape_of-sizes
shape_of-sizes c = c.hollow.auto.sizes

pub shape_of-answer : goal.shape_of-answer
shape_of-answer c = c.hollow.auto.answer

pub returns : goal.returns
returns c = (c.hollow.ensures.value, (c.hollow.ensures.answer_after, c.hollow.ensures.cleared))
