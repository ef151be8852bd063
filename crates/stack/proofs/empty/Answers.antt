use Rattle.space.specs.Shapes.{all_corners}
use Rattle.stack.specs.Stacks.{cells_counts, stack_of}
use Rattle.stack.proofs.empty.Goals as goal

pub returns : goal.returns
unfolding stack_of cells_counts all_corners
returns c = cc
