use Rattle.vector_leaves.proofs.leaf_residual.Goals as goal

pub returns : goal.returns
returns c = cc
