use Rattle.stack.specs.Stacks.{is_over}
use Rattle.stack.proofs.is_over.Goals as goal

pub returns : goal.returns
unfolding is_over
returns c = cc
