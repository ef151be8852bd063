use Rattle.vector_leaves.proofs.leaf_difference.Goals as goal

pub returns : goal.returns
returns c = cc
