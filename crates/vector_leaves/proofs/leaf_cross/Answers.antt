use Rattle.vector_leaves.proofs.leaf_cross.Goals as goal

pub returns : goal.returns
returns c = cc
