use mathlib.Core.Path.{◌∙◌}
use Rattle.clear.specs.Clear.{zeros_same}
use Rattle.solid_fuse.specs.Laws.{all_zero}
use Rattle.solid_fuse.proofs.fuse.Goals as goal

pub shape_of-rest : goal.shape_of-rest
shape_of-rest c = c.half_cleared-ended.auto.rest

pub shape_of-spare : goal.shape_of-spare
shape_of-spare c = c.half_cleared-ended.auto.spare

pub shape_of-dst : goal.shape_of-dst
shape_of-dst c = c.half_cleared-ended.auto.dst

pub shape_of-held : goal.shape_of-held
shape_of-held c = c.half_cleared-ended.auto.held

pub shape_of-slots : goal.shape_of-slots
shape_of-slots c = c.half_cleared-ended.auto.slots

pub shape_of-counts : goal.shape_of-counts
shape_of-counts c = c.half_cleared-ended.auto.counts

pub shape_of-sizes : goal.shape_of-sizes
shape_of-sizes c = c.half_cleared-ended.auto.sizes

pub shape_of-seats : goal.shape_of-seats
shape_of-seats c = c.half_cleared-ended.auto.seats

pub shape_of-lengths : goal.shape_of-lengths
shape_of-lengths c = c.half_cleared-ended.auto.lengths

pub shape_of-owners : goal.shape_of-owners
shape_of-owners c = c.half_cleared-ended.auto.owners

pub shape_of-cells : goal.shape_of-cells
shape_of-cells c = c.half_cleared-ended.auto.cells

pub shape_of-cuts : goal.shape_of-cuts
shape_of-cuts c = c.zero_counts4.auto.a ∙ c.half_cleared-ended.auto.cuts

pub shape_of-runs : goal.shape_of-runs
shape_of-runs c = c.zero_counts4.auto.b ∙ c.half_cleared-ended.auto.runs

pub shape_of-keys : goal.shape_of-keys
shape_of-keys c = c.zero_counts4.auto.c ∙ c.half_cleared-ended.auto.keys

pub shape_of-begins : goal.shape_of-begins
shape_of-begins c = c.zero_counts4.auto.d ∙ c.half_cleared-ended.auto.begins

pub shape_of-ord : goal.shape_of-ord
shape_of-ord c = c.zero_counts3.auto.a ∙ c.half_cleared-ended.auto.ord

pub shape_of-ends : goal.shape_of-ends
shape_of-ends c = c.zero_counts3.auto.b ∙ c.half_cleared-ended.auto.ends

pub shape_of-marks : goal.shape_of-marks
shape_of-marks c = c.zero_counts3.auto.c ∙ c.half_cleared-ended.auto.marks

pub shape_of-out : goal.shape_of-out
shape_of-out c = c.zero_counts3-2.auto.a ∙ c.half_cleared-ended.auto.out

pub shape_of-many : goal.shape_of-many
shape_of-many c = c.zero_counts3-2.auto.b ∙ c.half_cleared-ended.auto.many

pub shape_of-shells : goal.shape_of-shells
shape_of-shells c = c.zero_counts3-2.auto.c ∙ c.half_cleared-ended.auto.shells

pub shape_of-answer : goal.shape_of-answer
shape_of-answer c = c.half_cleared-ended.auto.answer

pub returns : goal.returns
returns c = let S = c.half_cleared-ended in
    record { fuse_ended = S.ensures.fuse_ended; cleared = all_zero S.ensures.half (c.zero_counts4.ensures.a_after ∙ zeros_same _ _ S.auto.cuts) (c.zero_counts4.ensures.b_after ∙ zeros_same _ _ S.auto.runs) (c.zero_counts4.ensures.c_after ∙ zeros_same _ _ S.auto.keys) (c.zero_counts4.ensures.d_after ∙ zeros_same _ _ S.auto.begins) (c.zero_counts3.ensures.a_after ∙ zeros_same _ _ S.auto.ord) (c.zero_counts3.ensures.b_after ∙ zeros_same _ _ S.auto.ends) (c.zero_counts3.ensures.c_after ∙ zeros_same _ _ S.auto.marks) (c.zero_counts3-2.ensures.a_after ∙ zeros_same _ _ S.auto.out) (c.zero_counts3-2.ensures.b_after ∙ zeros_same _ _ S.auto.many) (c.zero_counts3-2.ensures.c_after ∙ zeros_same _ _ S.auto.shells) }
