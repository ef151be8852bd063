use mathlib.Core.Path.{sym, ◌∙◌}
use Rattle.offset.specs.Laws.{finite_next, finite_end}
use Rattle.offset.proofs.all_finite.Goals as goal

pub loop-j-preserved : goal.loop-j-preserved
loop-j-preserved c =
    finite_next _ _ _ _ _ _ c.loop-j-test.true c.requires c.is_finite-fine.ensures ∙ c.loop-j.invariant

pub returns : goal.returns
returns c = sym (finite_end _ _ _ _ _ c.loop-j-test.false) ∙ c.loop-j.invariant
