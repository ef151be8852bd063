use Rattle.std.specs.Prelude.{Err}
use mathlib.Core.Path.{ap, ◌∙◌}
use Rattle.stack.specs.Stacks.{stack_of}
use Rattle.list_lent.proofs.none.Goals as goal

pub returns : goal.returns
returns c = c.gone.ensures ∙ ap (λ x. stack_of (Err x)) c.refuse.ensures
