use mathlib.Core.Path.{sym, ◌∙◌}
use lib.Seq.{length-take-le, length_front}
use Rattle.fuse_served.specs.Laws.{cut_asks, ends_long, fuse_asks, entry_made, entry_refused}
use Rattle.fuse_served.proofs.served.Goals as goal

pub cut_job-list-requires : goal.cut_job-list-requires
cut_job-list-requires c = let A = c.args in
    let I = c.is_lent-enough in
    record { stood = (cut_asks A.limit A.answer.now A.rest.now A.spare.now A.dst.now A.held.now A.slots.now A.counts.now A.sizes.now A.seats.now A.lengths.now A.owners.now A.cells.now A.cuts.now A.runs.now A.keys.now A.begins.now A.ord.now A.ends.now A.marks.now A.out.now A.many.now A.shells.now I.result A.job.now _ _ I.ensures c.open_job-read.ensures c.in-Ok.is).0; in_bounds = (cut_asks A.limit A.answer.now A.rest.now A.spare.now A.dst.now A.held.now A.slots.now A.counts.now A.sizes.now A.seats.now A.lengths.now A.owners.now A.cells.now A.cuts.now A.runs.now A.keys.now A.begins.now A.ord.now A.ends.now A.marks.now A.out.now A.many.now A.shells.now I.result A.job.now _ _ I.ensures c.open_job-read.ensures c.in-Ok.is).1 }

pub slice_bounds-fused_bytes-end : goal.slice_bounds-fused_bytes-end
slice_bounds-fused_bytes-end c =
    let A = c.args in
    let I = c.is_lent-enough in
    ends_long A.limit A.answer.now A.rest.now A.spare.now A.dst.now A.held.now A.slots.now A.counts.now A.sizes.now A.seats.now A.lengths.now A.owners.now A.cells.now A.cuts.now A.runs.now A.keys.now A.begins.now A.ord.now A.ends.now A.marks.now A.out.now A.many.now A.shells.now I.result A.job.now _ _ I.ensures c.open_job-read.ensures c.in-Ok.is

pub slice_bounds-fused_bytes-end-in-Ok : goal.slice_bounds-fused_bytes-end-in-Ok
slice_bounds-fused_bytes-end-in-Ok c =
    let A = c.args in
    let I = c.is_lent-enough in
    sym (length-take-le A.limit A.ends.now (ends_long A.limit A.answer.now A.rest.now A.spare.now A.dst.now A.held.now A.slots.now A.counts.now A.sizes.now A.seats.now A.lengths.now A.owners.now A.cells.now A.cuts.now A.runs.now A.keys.now A.begins.now A.ord.now A.ends.now A.marks.now A.out.now A.many.now A.shells.now I.result A.job.now _ _ I.ensures c.open_job-read.ensures c.in-Ok.is))

pub fused_bytes-requires : goal.fused_bytes-requires
fused_bytes-requires c =
    let A = c.args in
    let I = c.is_lent-enough in
    let C = c.cut_job-list in
    fuse_asks A.limit A.answer.now A.rest.now A.spare.now A.dst.now A.held.now A.slots.now A.counts.now A.sizes.now A.seats.now A.lengths.now A.owners.now A.cells.now A.cuts.now A.runs.now A.keys.now A.begins.now A.ord.now A.ends.now A.marks.now A.out.now A.many.now A.shells.now I.result A.job.now _ _ I.ensures c.open_job-read.ensures c.in-Ok.is _ _ _ _ C.ensures _ _ _ _ _ C.auto.rest C.auto.held C.auto.slots C.auto.sizes C.auto.seats (length-take-le A.limit A.ends.now (ends_long A.limit A.answer.now A.rest.now A.spare.now A.dst.now A.held.now A.slots.now A.counts.now A.sizes.now A.seats.now A.lengths.now A.owners.now A.cells.now A.cuts.now A.runs.now A.keys.now A.begins.now A.ord.now A.ends.now A.marks.now A.out.now A.many.now A.shells.now I.result A.job.now _ _ I.ensures c.open_job-read.ensures c.in-Ok.is))

pub shape_of-rest : goal.shape_of-rest
shape_of-rest c = c.fused_bytes.auto.points ∙ c.cut_job-list.auto.rest

pub shape_of-spare : goal.shape_of-spare
shape_of-spare c = c.cut_job-list.auto.spare

pub shape_of-dst : goal.shape_of-dst
shape_of-dst c = c.cut_job-list.auto.dst

pub shape_of-held : goal.shape_of-held
shape_of-held c = c.fused_bytes.auto.corners ∙ c.cut_job-list.auto.held

pub shape_of-slots : goal.shape_of-slots
shape_of-slots c = c.fused_bytes.auto.cycles ∙ c.cut_job-list.auto.slots

pub shape_of-counts : goal.shape_of-counts
shape_of-counts c = c.cut_job-list.auto.counts

pub shape_of-sizes : goal.shape_of-sizes
shape_of-sizes c = c.fused_bytes.auto.sizes ∙ c.cut_job-list.auto.sizes

pub shape_of-seats : goal.shape_of-seats
shape_of-seats c = c.fused_bytes.auto.starts ∙ c.cut_job-list.auto.seats

pub shape_of-lengths : goal.shape_of-lengths
shape_of-lengths c = c.fused_bytes.auto.lengths

pub shape_of-owners : goal.shape_of-owners
shape_of-owners c = c.fused_bytes.auto.owners

pub shape_of-cells : goal.shape_of-cells
shape_of-cells c = c.fused_bytes.auto.cells

pub shape_of-cuts : goal.shape_of-cuts
shape_of-cuts c = c.fused_bytes.auto.cuts

pub shape_of-runs : goal.shape_of-runs
shape_of-runs c = c.fused_bytes.auto.runs

pub shape_of-keys : goal.shape_of-keys
shape_of-keys c = c.fused_bytes.auto.k

pub shape_of-begins : goal.shape_of-begins
shape_of-begins c = c.fused_bytes.auto.s

pub shape_of-ord : goal.shape_of-ord
shape_of-ord c = c.fused_bytes.auto.ord

pub shape_of-ends : goal.shape_of-ends
shape_of-ends c = let A = c.args in let b = c.fused_bytes in length_front A.ends.now b.new.ends A.limit b.auto.ends

pub shape_of-marks : goal.shape_of-marks
shape_of-marks c = c.fused_bytes.auto.marks

pub shape_of-out : goal.shape_of-out
shape_of-out c = c.fused_bytes.auto.out

pub shape_of-many : goal.shape_of-many
shape_of-many c = c.fused_bytes.auto.many

pub shape_of-shells : goal.shape_of-shells
shape_of-shells c = c.fused_bytes.auto.shells

pub shape_of-answer : goal.shape_of-answer
shape_of-answer c = c.fused_bytes.auto.answer

pub returns-in-Ok : goal.returns-in-Ok
returns-in-Ok c =
    let A = c.args in
    let I = c.is_lent-enough in
    entry_made A.limit A.answer.now A.rest.now A.spare.now A.dst.now A.held.now A.slots.now A.counts.now A.sizes.now A.seats.now A.lengths.now A.owners.now A.cells.now A.cuts.now A.runs.now A.keys.now A.begins.now A.ord.now A.ends.now A.marks.now A.out.now A.many.now A.shells.now I.result A.job.now _ _ I.ensures c.open_job-read.ensures c.in-Ok.is _ _ _ _ c.cut_job-list.ensures _ _ (c.fused_bytes.ensures.value, c.fused_bytes.ensures.answer_after)

pub returns-in-Err : goal.returns-in-Err
returns-in-Err c = let A = c.args in let I = c.is_lent-enough in entry_refused I.result _ A.limit A.job.now _ _ _ A.answer.now I.ensures c.open_job-read.ensures c.in-Err.is c.stop.ensures
