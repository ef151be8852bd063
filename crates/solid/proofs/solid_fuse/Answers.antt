use mathlib.Core.Path.{ap, ◌∙◌}
use native.Mathlib.Omega.{arith}
use Rattle.ended.specs.Ends.{told_by}
use Rattle.ended.specs.Laws.{told_of_lem}
use Rattle.solid.proofs.solid_fuse.Goals as goal

pub told_by-requires : goal.told_by-requires
told_by-requires c = omega (arith, c.fuse-fused.ensures.fuse_ended.0.1)

pub shape_of-rest : goal.shape_of-rest
shape_of-rest c = c.fuse-fused.auto.rest

pub shape_of-spare : goal.shape_of-spare
shape_of-spare c = c.fuse-fused.auto.spare

pub shape_of-dst : goal.shape_of-dst
shape_of-dst c = c.fuse-fused.auto.dst

pub shape_of-held : goal.shape_of-held
shape_of-held c = c.fuse-fused.auto.held

pub shape_of-slots : goal.shape_of-slots
shape_of-slots c = c.fuse-fused.auto.slots

pub shape_of-counts : goal.shape_of-counts
shape_of-counts c = c.fuse-fused.auto.counts

pub shape_of-sizes : goal.shape_of-sizes
shape_of-sizes c = c.fuse-fused.auto.sizes

pub shape_of-seats : goal.shape_of-seats
shape_of-seats c = c.fuse-fused.auto.seats

pub shape_of-lengths : goal.shape_of-lengths
shape_of-lengths c = c.fuse-fused.auto.lengths

pub shape_of-owners : goal.shape_of-owners
shape_of-owners c = c.fuse-fused.auto.owners

pub shape_of-cells : goal.shape_of-cells
shape_of-cells c = c.fuse-fused.auto.cells

pub shape_of-cuts : goal.shape_of-cuts
shape_of-cuts c = c.fuse-fused.auto.cuts

pub shape_of-runs : goal.shape_of-runs
shape_of-runs c = c.fuse-fused.auto.runs

pub shape_of-keys : goal.shape_of-keys
shape_of-keys c = c.fuse-fused.auto.keys

pub shape_of-begins : goal.shape_of-begins
shape_of-begins c = c.fuse-fused.auto.begins

pub shape_of-ord : goal.shape_of-ord
shape_of-ord c = c.fuse-fused.auto.ord

pub shape_of-ends : goal.shape_of-ends
shape_of-ends c = c.fuse-fused.auto.ends

pub shape_of-marks : goal.shape_of-marks
shape_of-marks c = c.fuse-fused.auto.marks

pub shape_of-out : goal.shape_of-out
shape_of-out c = c.fuse-fused.auto.out

pub shape_of-many : goal.shape_of-many
shape_of-many c = c.fuse-fused.auto.many

pub shape_of-shells : goal.shape_of-shells
shape_of-shells c = c.fuse-fused.auto.shells

pub shape_of-answer : goal.shape_of-answer
shape_of-answer c = c.fuse-fused.auto.answer

pub returns : goal.returns
returns c = let F = c.fuse-fused in (c.told_by.ensures ∙ ap (λ x. told_by x.verdict x.bytes) F.ensures.fuse_ended.0.0 ∙ told_of_lem _, (F.ensures.fuse_ended.1, F.ensures.cleared))
