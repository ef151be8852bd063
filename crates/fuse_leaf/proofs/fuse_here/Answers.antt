use Rattle.fuse_leaf.specs.Laws.{arranging, tooled}
use native.Mathlib.Omega.{arith}
use Rattle.fuse_leaf.proofs.fuse_here.Goals as goal

pub fused_bytes-requires : goal.fused_bytes-requires
fused_bytes-requires c =
    let P = c.requires in (
      P.0,
      arranging _ P.1 _ _ _ _ _ _ (omega arith) (omega arith) (omega arith) (omega arith) (omega arith) (omega arith),
      tooled _ P.1 _ _ _ _ _ _ _ _ _ _ _ _ _ _ (omega arith) (omega arith) (omega arith) (omega arith) (omega arith) (omega arith) (omega arith) (omega arith) (omega arith) P.2 (omega arith) (omega arith) (omega arith) (omega arith),
      P.3,
    )

pub shape_of-sizes : goal.shape_of-sizes
shape_of-sizes c = c.fused_bytes.auto.sizes

pub shape_of-answer : goal.shape_of-answer
shape_of-answer c = c.fused_bytes.auto.answer

pub returns : goal.returns
returns c = let e = c.fused_bytes.ensures in
    record { value = e.value.0; answer_after = e.answer_after }
