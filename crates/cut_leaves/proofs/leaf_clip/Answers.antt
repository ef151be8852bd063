use Rattle.cut_leaves.proofs.Answers.{clip_short, clip_told, clip_lent, clip_done}
use borrow.Author.Tests.{not-true, not-false}
use mathlib.Core.Path.{ap}
use mathlib.Core.Bool.{not}
use Rattle.cut_leaves.proofs.leaf_clip.Goals as goal

pub returns-then-not-fits : goal.returns-then-not-fits
returns-then-not-fits c =
    let A = c.args in
    clip_short A.limit A.src.now A.from A.sizes.now A.j A.faces A.dst.now A.at A.counts.now A.k A.face.now A.cap.now A.flat.now A.order.now A.chain.now A.told.now _ _ _
    c.cell_fits.ensures c.work_fits-work.ensures c.place_fits-place.ensures _ (not-true _ (ap not c.if-not-fits.true))

pub clip-r-requires : goal.clip-r-requires
clip-r-requires c =
    let A = c.args in
    clip_lent A.limit A.src.now A.from A.sizes.now A.j A.faces A.dst.now A.at A.counts.now A.k A.face.now A.cap.now A.flat.now A.order.now A.chain.now A.told.now _ _ _
    c.cell_fits.ensures c.work_fits-work.ensures c.place_fits-place.ensures (not-false _ (ap not c.if-not-fits.false))

pub put_clipped-requires : goal.put_clipped-requires
put_clipped-requires c =
    clip_told _ _ _ _ _ _ c.cell_fits.result c.work_fits-work.result _ c.place_fits-place.ensures (not-false _ (ap not c.if-not-fits.false))

pub returns : goal.returns
returns c =
    let A = c.args in
    let e = c.put_clipped.ensures in
    clip_done A.limit A.src.now A.from A.sizes.now A.j A.faces A.dst.now A.at A.counts.now A.k A.face.now A.cap.now A.flat.now A.order.now A.chain.now A.told.now _ _ _
    c.cell_fits.ensures c.work_fits-work.ensures c.place_fits-place.ensures _ _ _ _ _ _ _ _ _
    (not-false _ (ap not c.if-not-fits.false)) c.plane_by-w.ensures c.clip-r.ensures e.value e.told_after
