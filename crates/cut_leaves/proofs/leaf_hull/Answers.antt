use borrow.Author.Tests.{not-true, not-false}
use Rattle.cut_leaves.proofs.Answers.{hull_short, hull_work, hull_places, hull_done}
use mathlib.Core.Path.{ap}
use mathlib.Core.Bool.{not}
use Rattle.cut_leaves.proofs.leaf_hull.Goals as goal

pub returns-then-not-fits : goal.returns-then-not-fits
returns-then-not-fits c = hull_short _ _ _ _ _ _ _ _ _ _ c.hull_fits-fits.ensures (not-true _ (ap not c.if-not-fits.true))

pub hull-m-requires : goal.hull-m-requires
hull-m-requires c =
    hull_work _ _ _ _ _ _ _ _ c.hull_fits-fits.ensures (not-false _ (ap not c.if-not-fits.false))

pub put_made-requires : goal.put_made-requires
put_made-requires c =
    let p = hull_places _ _ _ _ _ _ _ _ c.hull_fits-fits.ensures (not-false _ (ap not c.if-not-fits.false)) in
    (p.0, p.1, c.hull-m.ensures.n_bound)

pub returns : goal.returns
returns c =
    let e = c.put_made.ensures in
    hull_done _ _ _ _ _ _ _ _ _ _ c.hull_fits-fits.ensures _ _ _ _ _ (not-false _ (ap not c.if-not-fits.false)) c.plane_by-w.ensures c.hull-m.ensures.value e.value e.out_after e.told_after
