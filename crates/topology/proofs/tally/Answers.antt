use Rattle.topology.specs.Laws.{tallying_start, tallying_next, tallying_end}
use borrow.Author.Rules.{rules}
use Rattle.topology.proofs.tally.Goals as goal

pub loop-i-init : goal.loop-i-init
loop-i-init c = tallying_start _ _ _ _ _ _ _

pub loop-i-preserved : goal.loop-i-preserved
loop-i-preserved c = search (rules, tallying_next)

pub returns : goal.returns
returns c = search (rules, tallying_end)
