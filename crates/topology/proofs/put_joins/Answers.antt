use Rattle.topology.specs.Laws.{joining_start, joining_next, joining_room, joining_end}
use borrow.Author.Rules.{rules}
use Rattle.topology.proofs.put_joins.Goals as goal

pub loop-i-init : goal.loop-i-init
loop-i-init c = joining_start _ _ _ _ _

pub bounds-ends-i-in-loop-i : goal.bounds-ends-i-in-loop-i
bounds-ends-i-in-loop-i c = search (rules, joining_room)

pub loop-i-preserved : goal.loop-i-preserved
loop-i-preserved c = search (rules, joining_next)

pub returns : goal.returns
returns c = search (rules, joining_end)
