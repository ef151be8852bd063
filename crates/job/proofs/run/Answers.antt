use Rattle.job.proofs.Turns.{run_turn, run_end}
use borrow.Author.Rules.{rules}
use Rattle.job.proofs.run.Goals as goal

pub loop-at-preserved : goal.loop-at-preserved
loop-at-preserved c = search (rules, run_turn)

pub returns : goal.returns
returns c = search (rules, run_end)
