use Rattle.groups.specs.Stack.{room_lt, visits_new, visits_old}
use borrow.Author.Rules.{rules}
use Rattle.groups.proofs.visit_node.Goals as goal

pub bounds-work-top : goal.bounds-work-top
bounds-work-top c = search (rules, room_lt)

pub returns-then-seen-j-eq0 : goal.returns-then-seen-j-eq0
returns-then-seen-j-eq0 c = search (rules, visits_new)

pub returns : goal.returns
returns c = search (rules, visits_old)
