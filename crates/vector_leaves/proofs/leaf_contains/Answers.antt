use Rattle.vector_leaves.proofs.leaf_contains.Goals as goal

pub returns : goal.returns
returns c = cc
