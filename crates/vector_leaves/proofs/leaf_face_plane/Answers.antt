use Rattle.vector_leaves.proofs.leaf_face_plane.Goals as goal

pub returns : goal.returns
returns c = record { value = cc; out_after = cc }
