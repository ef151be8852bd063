use Rattle.vector_leaves.proofs.leaf_dot.Goals as goal

pub returns : goal.returns
returns c = cc
