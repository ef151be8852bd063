use mathlib.Core.Path.{sym, ◌∙◌}
use Rattle.float.proofs.before.Goals as goal

pub returns-then-x-y : goal.returns-then-x-y
returns-then-x-y c = simp c.if-x-y.true

pub returns-then-is_negative : goal.returns-then-is_negative
returns-then-is_negative c = simp (c.if-x-y.false, c.if-x-y-2.true, sym c.is_negative.ensures ∙ c.if-is_negative.true, c.is_negative-then-is_negative.ensures)

pub returns-else-is_negative : goal.returns-else-is_negative
returns-else-is_negative c = simp (c.if-x-y.false, c.if-x-y-2.true, sym c.is_negative.ensures ∙ c.if-is_negative.false)

pub returns-else-x-y-2 : goal.returns-else-x-y-2
returns-else-x-y-2 c = simp (c.if-x-y.false, c.if-x-y-2.false)
