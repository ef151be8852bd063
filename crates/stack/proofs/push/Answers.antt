use mathlib.Core.Path.{sym, ◌∙◌}
use Rattle.stack.specs.Steps.{not_over, push_full, push_fits}
use native.Mathlib.Omega.{arith}
use Rattle.stack.proofs.push.Goals as goal

pub returns-then-is_over : goal.returns-then-is_over
returns-then-is_over c = record { value = (push_full _ _ c.args.s c.args.faces c.args.n c.args.cells.now _ _ c.is_over.ensures c.if-is_over.true c.refuse.ensures c.gone.ensures).0; cells_after = (push_full _ _ c.args.s c.args.faces c.args.n c.args.cells.now _ _ c.is_over.ensures c.if-is_over.true c.refuse.ensures c.gone.ensures).1 }

pub overflow_add-result-3 : goal.overflow_add-result-3
overflow_add-result-3 c = omega (arith, not_over _ _ _ c.requires.0 (sym c.is_over.ensures ∙ c.if-is_over.false), c.well_formed)

pub returns : goal.returns
returns c = record { value = (push_fits _ _ c.args.s c.args.faces c.args.n c.args.cells.now c.is_over.ensures c.if-is_over.false).0; cells_after = (push_fits _ _ c.args.s c.args.faces c.args.n c.args.cells.now c.is_over.ensures c.if-is_over.false).1 }
