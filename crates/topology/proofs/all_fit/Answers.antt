use mathlib.Core.Path.{sym, ◌∙◌}
use Rattle.topology.specs.Laws.{fit_next, fit_end}
use Rattle.topology.specs.Paired.{all_paired}
use borrow.Author.Rules.{rules}
use Rattle.topology.proofs.all_fit.Goals as goal

pub loop-i-preserved : goal.loop-i-preserved
loop-i-preserved c = search (rules, fit_next)

pub returns : goal.returns
returns c = sym (fit_end _ _ _ _ _ _ _ c.loop-i-test.false) ∙ c.loop-i.invariant ∙ all_paired _ _
