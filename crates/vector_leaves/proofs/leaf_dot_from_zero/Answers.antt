use Rattle.vector_leaves.proofs.leaf_dot_from_zero.Goals as goal

pub returns : goal.returns
returns c = cc
