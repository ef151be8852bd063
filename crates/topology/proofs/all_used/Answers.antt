use mathlib.Core.Path.{sym, ◌∙◌}
use Rattle.topology.specs.Laws.{below_start, below_next, below_end}
use borrow.Author.Rules.{rules}
use Rattle.topology.proofs.all_used.Goals as goal

pub loop-x-init : goal.loop-x-init
loop-x-init c = below_start _ _

pub loop-x-preserved : goal.loop-x-preserved
loop-x-preserved c = search (rules, below_next)

pub returns : goal.returns
returns c = sym (below_end _ _ _ _ c.loop-x-test.false) ∙ c.loop-x.invariant
