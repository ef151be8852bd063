use native.Mathlib.Omega.{arith}
use borrow.Author.Tests.{not-true, not-false}
use Rattle.cut_leaves.proofs.Answers.{unique_short, unique_points, unique_places, unique_done}
use mathlib.Core.Path.{ap}
use mathlib.Core.Bool.{not}
use Rattle.cut_leaves.proofs.leaf_unique.Goals as goal

pub returns-then-not-fits : goal.returns-then-not-fits
returns-then-not-fits c = unique_short _ _ _ _ _ c.unique_fits-fits.ensures (not-true _ (ap not c.if-not-fits.true))

pub unique-requires : goal.unique-requires
unique-requires c = (unique_points _ _ _ _ c.unique_fits-fits.ensures (not-false _ (ap not c.if-not-fits.false)), omega arith)

pub put_made-requires : goal.put_made-requires
put_made-requires c =
    let p = unique_places _ _ _ _ c.unique_fits-fits.ensures (not-false _ (ap not c.if-not-fits.false)) in
    (p.0, p.1, c.unique.ensures.n_bound)

pub returns : goal.returns
returns c =
    let e = c.put_made.ensures in
    unique_done _ _ _ _ _ c.unique_fits-fits.ensures _ _ _ _ (not-false _ (ap not c.if-not-fits.false)) c.unique.ensures.value e.value e.out_after e.told_after
