use borrow.Author.Rules.{rules}
use Rattle.words.proofs.Turns.{step, end}
use Rattle.words.proofs.put_digits.Goals as goal

pub loop-i-preserved : goal.loop-i-preserved
loop-i-preserved c = search (rules, step)

pub returns : goal.returns
returns c = search (rules, end)
