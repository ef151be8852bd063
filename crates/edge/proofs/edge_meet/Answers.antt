use mathlib.Core.Path.{sym, ◌∙◌}
use Rattle.lists.specs.Laws.{cond_yes, cond_no}
use Rattle.edge.specs.Meets.{edge_meet}
use Rattle.edge.proofs.edge_meet.Goals as goal

pub returns-then-crosses : goal.returns-then-crosses
unfolding edge_meet
returns-then-crosses c = c.cut_meet.ensures ∙ cond_yes _ (sym c.crosses.ensures ∙ c.if-crosses.true)

pub returns : goal.returns
unfolding edge_meet
returns c = cond_no _ (sym c.crosses.ensures ∙ c.if-crosses.false)
