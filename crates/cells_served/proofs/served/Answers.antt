use mathlib.Core.Path.{sym, ◌∙◌}
use lib.ListN.{length}
use Rattle.finish.specs.Laws.{holding}
use Rattle.cells_served.specs.Laws.{lends_low, lent_is, lent_cut, lent_check, cut_holds, laid_is, entry_opened, entry_made, entry_refused}
use Rattle.cells_served.proofs.served.Goals as goal

pub cut_job-s-requires : goal.cut_job-s-requires
cut_job-s-requires c = let A = c.args in
    let q = entry_opened A.enough A.job.now _ _ c.open_job-read.ensures c.in-Ok.is in
    let L = lent_is A.limit (length A.answer.now) (length A.rest.now) (length A.spare.now) (length A.dst.now) (length A.held.now) (length A.slots.now) (length A.counts.now) (length A.sizes.now) (length A.order.now) (length A.chain.now) (length A.head.now) (length A.seen.now) (length A.work.now) (length A.nodes.now) (length A.cuts.now) (sym c.requires ∙ q.0) in
    let K = lent_cut A.limit A.answer.now A.rest.now A.spare.now A.dst.now A.held.now A.slots.now A.counts.now A.sizes.now A.order.now A.chain.now A.head.now A.seen.now A.work.now A.nodes.now A.cuts.now L in
    record { stood = (q.1, q.2, K.0); place = K.1 }

pub finish_cells-v-requires : goal.finish_cells-v-requires
finish_cells-v-requires c = let A = c.args in
    let q = entry_opened A.enough A.job.now _ _ c.open_job-read.ensures c.in-Ok.is in
    let L = lent_is A.limit (length A.answer.now) (length A.rest.now) (length A.spare.now) (length A.dst.now) (length A.held.now) (length A.slots.now) (length A.counts.now) (length A.sizes.now) (length A.order.now) (length A.chain.now) (length A.head.now) (length A.seen.now) (length A.work.now) (length A.nodes.now) (length A.cuts.now) (sym c.requires ∙ q.0) in
    let X = c.cut_job-s in
    let K = lent_check A.limit A.answer.now A.rest.now A.spare.now A.dst.now A.held.now A.slots.now A.counts.now A.sizes.now A.order.now A.chain.now A.head.now A.seen.now A.work.now A.nodes.now A.cuts.now L _ _ _ X.auto.rest X.auto.held X.auto.slots in
    record { holds = (cut_holds A.job.now A.limit _ _ _ _ _ X.ensures, K.0); bench = K.1 }

pub put_solids-requires : goal.put_solids-requires
put_solids-requires c =
    let A = c.args in
    let q = entry_opened A.enough A.job.now _ _ c.open_job-read.ensures c.in-Ok.is in
    let L = lent_is A.limit (length A.answer.now) (length A.rest.now) (length A.spare.now) (length A.dst.now) (length A.held.now) (length A.slots.now) (length A.counts.now) (length A.sizes.now) (length A.order.now) (length A.chain.now) (length A.head.now) (length A.seen.now) (length A.work.now) (length A.nodes.now) (length A.cuts.now) (sym c.requires ∙ q.0) in
    (holding _ _ _ _ _ _ _ _ _ c.finish_cells-v.ensures, L.answer_fits)

pub shape_of-rest : goal.shape_of-rest
shape_of-rest c = c.finish_cells-v.auto.points ∙ c.cut_job-s.auto.rest

pub shape_of-spare : goal.shape_of-spare
shape_of-spare c = c.cut_job-s.auto.spare

pub shape_of-dst : goal.shape_of-dst
shape_of-dst c = c.cut_job-s.auto.dst

pub shape_of-held : goal.shape_of-held
shape_of-held c = c.finish_cells-v.auto.places ∙ c.cut_job-s.auto.held

pub shape_of-slots : goal.shape_of-slots
shape_of-slots c = c.finish_cells-v.auto.marks ∙ c.cut_job-s.auto.slots

pub shape_of-counts : goal.shape_of-counts
shape_of-counts c = c.cut_job-s.auto.counts

pub shape_of-sizes : goal.shape_of-sizes
shape_of-sizes c = c.cut_job-s.auto.sizes

pub shape_of-order : goal.shape_of-order
shape_of-order c = c.finish_cells-v.auto.ends

pub shape_of-chain : goal.shape_of-chain
shape_of-chain c = c.finish_cells-v.auto.next

pub shape_of-head : goal.shape_of-head
shape_of-head c = c.finish_cells-v.auto.head

pub shape_of-seen : goal.shape_of-seen
shape_of-seen c = c.finish_cells-v.auto.seen

pub shape_of-work : goal.shape_of-work
shape_of-work c = c.finish_cells-v.auto.work

pub shape_of-nodes : goal.shape_of-nodes
shape_of-nodes c = c.finish_cells-v.auto.nodes

pub shape_of-cuts : goal.shape_of-cuts
shape_of-cuts c = c.finish_cells-v.auto.cuts

pub shape_of-answer : goal.shape_of-answer
shape_of-answer c = c.put_solids.auto.out

pub returns-in-Ok : goal.returns-in-Ok
returns-in-Ok c = let A = c.args in
    let o = c.open_job-read.ensures in
    let g = c.in-Ok.is in
    let low = lends_low A.limit (length A.answer.now) (length A.rest.now) (length A.spare.now) (length A.dst.now) (length A.held.now) (length A.slots.now) (length A.counts.now) (length A.sizes.now) (length A.order.now) (length A.chain.now) (length A.head.now) (length A.seen.now) (length A.work.now) (length A.nodes.now) (length A.cuts.now) (sym c.requires ∙ (entry_opened A.enough A.job.now _ _ o g).0) in
    record { value = (entry_made A.enough A.limit A.job.now _ _ _ _ _ _ _ _ _ _ A.answer.now _ o g low (laid_is A.job.now A.limit _ _ _ _ _ c.cut_job-s.ensures _ _ _ _ c.finish_cells-v.ensures) (c.put_solids.ensures.value, c.put_solids.ensures.out_after)).0; answer_after = (entry_made A.enough A.limit A.job.now _ _ _ _ _ _ _ _ _ _ A.answer.now _ o g low (laid_is A.job.now A.limit _ _ _ _ _ c.cut_job-s.ensures _ _ _ _ c.finish_cells-v.ensures) (c.put_solids.ensures.value, c.put_solids.ensures.out_after)).1 }

pub returns-in-Err : goal.returns-in-Err
returns-in-Err c = let A = c.args in
    record { value = (entry_refused A.enough A.limit A.job.now _ _ _ A.answer.now c.open_job-read.ensures c.in-Err.is c.stop.ensures).0; answer_after = (entry_refused A.enough A.limit A.job.now _ _ _ A.answer.now c.open_job-read.ensures c.in-Err.is c.stop.ensures).1 }
