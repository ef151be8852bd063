use Rattle.answer.specs.Laws.{point_stored}
use borrow.Author.Rules.{rules}
use Rattle.answer.proofs.put_point.Goals as goal

pub returns : goal.returns
returns c = search (rules, point_stored)
