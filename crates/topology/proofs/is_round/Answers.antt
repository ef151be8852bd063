use Rattle.topology.specs.Laws.{round_few, round_is}
use borrow.Author.Rules.{rules}
use Rattle.topology.proofs.is_round.Goals as goal

pub returns-then-most-n : goal.returns-then-most-n
returns-then-most-n c = search (rules, round_few)

pub returns : goal.returns
returns c = search (rules, round_is)
