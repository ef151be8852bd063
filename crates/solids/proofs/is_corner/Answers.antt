use borrow.Author.Rules.{rules}
use Rattle.solids.specs.Laws.{has_any}
use Rattle.solids.proofs.is_corner.Goals as goal

pub returns : goal.returns
returns c = search (rules, has_any)
