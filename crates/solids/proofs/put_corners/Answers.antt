use Rattle.solids.specs.Storing.{dotting_start, dotting_next, dotting_end}
use borrow.Author.Rules.{rules}
use Rattle.solids.proofs.put_corners.Goals as goal

pub loop-i-init : goal.loop-i-init
loop-i-init c = dotting_start _ _ _ _ _ _

pub loop-i-preserved : goal.loop-i-preserved
loop-i-preserved c = search (rules, dotting_next)

pub returns : goal.returns
returns c = search (rules, dotting_end)
