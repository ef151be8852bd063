use mathlib.Core.Path.{sym, ap, ◌∙◌}
use Rattle.space.proofs.Far.{reach_apart}
use Rattle.polygon.specs.Unique.{both}
use Rattle.polygon.specs.Laws.{both_apart}
use Rattle.polygon.proofs.compared.Goals as goal

pub returns-then-is_far : goal.returns-then-is_far
returns-then-is_far c =
    sym (ap (both c.args.s) (reach_apart c.args.t c.args.g c.args.q c.args.r c.requires (sym c.is_far.ensures ∙ c.if-is_far.true)) ∙ both_apart c.args.s)

pub returns : goal.returns
returns c = c.both.ensures ∙ ap (both _) c.near.ensures
