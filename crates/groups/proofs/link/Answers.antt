use Rattle.groups.specs.Chain.{linking_start, linking_step}
use borrow.Author.Rules.{rules}
use Rattle.groups.proofs.link.Goals as goal

pub loop-e-init : goal.loop-e-init
loop-e-init c = search (rules, linking_start)

pub loop-e-preserved : goal.loop-e-preserved
loop-e-preserved c = search (rules, linking_step)
