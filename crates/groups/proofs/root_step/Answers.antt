use Rattle.groups.specs.Groups.{root_new, root_old}
use borrow.Author.Rules.{rules}
use Rattle.groups.proofs.root_step.Goals as goal

pub returns-then-seen-r-eq0 : goal.returns-then-seen-r-eq0
returns-then-seen-r-eq0 c = search (rules, root_new)

pub returns : goal.returns
returns c = search (rules, root_old)
