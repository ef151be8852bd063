use Rattle.topology.specs.Laws.{paired_by}
use borrow.Author.Rules.{rules}
use Rattle.topology.proofs.is_fit.Goals as goal

pub returns : goal.returns
returns c = search (rules, paired_by)
