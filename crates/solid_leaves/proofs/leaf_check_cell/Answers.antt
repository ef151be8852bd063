use mathlib.Core.Path.{sym, ◌∙◌}
use borrow.Author.Tests.{not-true, not-false}
use Rattle.solid_leaves.specs.Unpacked.{roomy_is, cell_small, cell_refused, cell_layout_lem, cell_checked}
use mathlib.Core.Path.{ap}
use mathlib.Core.Bool.{not}
use Rattle.solid_leaves.proofs.leaf_check_cell.Goals as goal

pub returns-then-not-is_roomy : goal.returns-then-not-is_roomy
returns-then-not-is_roomy c = cell_small _ _ _ (sym c.is_roomy.ensures ∙ not-true _ (ap not c.if-not-is_roomy.true))

pub check_laid-requires : goal.check_laid-requires
check_laid-requires c = (cell_layout_lem _ _ _ c.read_cell.ensures c.in-Ok.is, roomy_is _ _ _ _ _ _ _ _ _ _ (sym c.is_roomy.ensures ∙ not-false _ (ap not c.if-not-is_roomy.false)))

pub returns-in-Ok : goal.returns-in-Ok
returns-in-Ok c = cell_checked _ _ _ _ _ (sym c.is_roomy.ensures ∙ not-false _ (ap not c.if-not-is_roomy.false)) (cell_layout_lem _ _ _ c.read_cell.ensures c.in-Ok.is) c.check_laid.ensures

pub returns-in-Err : goal.returns-in-Err
returns-in-Err c = cell_refused _ _ _ _ _ (sym c.is_roomy.ensures ∙ not-false _ (ap not c.if-not-is_roomy.false)) c.read_cell.ensures c.in-Err.is
