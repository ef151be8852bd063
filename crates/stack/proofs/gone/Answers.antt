use Rattle.stack.specs.Stacks.{stack_of}
use Rattle.stack.proofs.gone.Goals as goal

pub returns : goal.returns
unfolding stack_of
returns c = cc
