use Rattle.groups.specs.Stack.{mid_start, mid_step, mid_less, mid_end}
use borrow.Author.Rules.{rules}
use Rattle.groups.proofs.spread.Goals as goal

pub loop-e-init : goal.loop-e-init
loop-e-init c = search (rules, mid_start)

pub loop-e-smaller : goal.loop-e-smaller
loop-e-smaller c = search (rules, mid_less)

pub loop-e-preserved : goal.loop-e-preserved
loop-e-preserved c = search (rules, mid_step)

pub returns : goal.returns
returns c = search (rules, mid_end)
