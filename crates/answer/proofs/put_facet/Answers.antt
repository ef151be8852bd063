use Rattle.answer.specs.Laws.{facet_stored}
use borrow.Author.Rules.{rules}
use Rattle.answer.proofs.put_facet.Goals as goal

pub returns : goal.returns
returns c = search (rules, facet_stored)
