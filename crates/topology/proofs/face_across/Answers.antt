use Rattle.topology.specs.Laws.{finding_start, finding_next, finding_hit, finding_end}
use borrow.Author.Rules.{rules}
use Rattle.topology.proofs.face_across.Goals as goal

pub loop-q-init : goal.loop-q-init
loop-q-init c = search (rules, finding_start)

pub returns-then-places-q : goal.returns-then-places-q
returns-then-places-q c = search (rules, finding_hit)

pub loop-q-preserved : goal.loop-q-preserved
loop-q-preserved c = search (rules, finding_next)

pub returns : goal.returns
returns c = search (rules, finding_end)
