use Rattle.std.specs.Prelude.{Ok}
use mathlib.Core.Path.{ap, ◌∙◌}
use Rattle.stack.specs.Steps.{join_nothing, join_part, join_refused, broad_part}
use Rattle.stack.proofs.join.Goals as goal

pub push-requires : goal.push-requires
push-requires c = (c.requires.0, broad_part _ _ _ (c.in-Ok.is ∙ ap Ok c.in-Some.is) c.requires.1, c.requires.2, c.requires.3)

pub returns-in-None : goal.returns-in-None
returns-in-None c = record { value = (join_nothing c.args.limit c.args.s c.args.p c.args.cells.now (c.in-Ok.is ∙ ap Ok c.in-None.is)).0; cells_after = (join_nothing c.args.limit c.args.s c.args.p c.args.cells.now (c.in-Ok.is ∙ ap Ok c.in-None.is)).1 }

pub returns-in-Some : goal.returns-in-Some
returns-in-Some c = record { value = (join_part c.args.limit c.args.s c.args.p _ _ _ c.args.cells.now _ (c.in-Ok.is ∙ ap Ok c.in-Some.is) c.push.ensures.value c.push.ensures.cells_after).0; cells_after = (join_part c.args.limit c.args.s c.args.p _ _ _ c.args.cells.now _ (c.in-Ok.is ∙ ap Ok c.in-Some.is) c.push.ensures.value c.push.ensures.cells_after).1 }

pub returns-in-Err : goal.returns-in-Err
returns-in-Err c = record { value = (join_refused c.args.limit c.args.s c.args.p _ _ c.args.cells.now c.in-Err.is c.gone.ensures).0; cells_after = (join_refused c.args.limit c.args.s c.args.p _ _ c.args.cells.now c.in-Err.is c.gone.ensures).1 }
