use Rattle.topology.specs.Laws.{laying_start, laying_next, laying_end}
use borrow.Author.Rules.{rules}
use Rattle.topology.proofs.put_corners.Goals as goal

pub loop-i-init : goal.loop-i-init
loop-i-init c = laying_start _ _ _ _ _ _

pub loop-i-preserved : goal.loop-i-preserved
loop-i-preserved c = search (rules, laying_next)

pub returns : goal.returns
returns c = search (rules, laying_end)
