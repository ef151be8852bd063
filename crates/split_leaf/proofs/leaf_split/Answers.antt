use mathlib.Core.Path.{refl, sym, ◌∙◌}
use native.Mathlib.Omega.{arith}
use borrow.Author.Tests.{not-true, not-false}
use Rattle.stack.specs.Laws.{holds}
use Rattle.split_leaf.specs.Laws.{enough, split_none, split_all, whole_planes, memory}
use Rattle.split_leaf.specs.Splitting.{split_lent}
use mathlib.Core.Path.{ap}
use mathlib.Core.Bool.{not}
use Rattle.split_leaf.proofs.leaf_split.Goals as goal

pub returns-then-not-fits : goal.returns-then-not-fits
returns-then-not-fits c = split_none _ _ _ _ _ _ _ (sym c.split_fits-fits.ensures ∙ not-true _ (ap not c.if-not-fits.true))

pub split_cells-s-requires : goal.split_cells-s-requires
split_cells-s-requires c = let A = c.args in
    let E = enough A.limit A.d.now A.counts.now A.sizes.now A.told.now (sym c.split_fits-fits.ensures ∙ not-false _ (ap not c.if-not-fits.false)) in
    record { n_in_bounds = (whole_planes _, holds _ _ _ _ _ _ c.list_in-list.ensures, E.places); places = memory _ E.low _ _ _ (omega arith) (omega arith) (omega arith) }

pub put_stack-requires : goal.put_stack-requires
put_stack-requires c =
    let A = c.args in
    (enough A.limit A.d.now A.counts.now A.sizes.now A.told.now (sym c.split_fits-fits.ensures ∙ not-false _ (ap not c.if-not-fits.false))).tells

pub returns : goal.returns
unfolding split_lent
returns c =
    let P = c.put_stack.ensures in
    split_all _ _ _ _ _ _ _ (sym c.split_fits-fits.ensures ∙ not-false _ (ap not c.if-not-fits.false)) _ _ _ _ _ _ _ _ _ c.list_in-list.ensures refl c.split_cells-s.ensures P.value P.told_after
