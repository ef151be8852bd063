-- A fused Boolean as a call: from two checked cells to the bytes of the bodies. Definitions only.
use Rattle.std.specs.Prelude.{ℕ, List}
use Rattle.refusal.specs.Outcome.{Outcome, then}
use Rattle.space.specs.declared.Precision.{Precision}
use Rattle.space.specs.Shapes.{Face, Cell}
use Rattle.job.specs.declared.Operation.{Operation}
use Rattle.pieces.specs.Pieces.{pieces_of}
use Rattle.fused.specs.Bodies.{fuse_cells}
use Rattle.fused_bytes.specs.Bytes.{answer_of}

-- 000, `body_boolean`: the cells of the operation, split by the planes of both solids, arranged and fused; "bodies, their shells, their facets"
unfoldable pub fused_of : Operation → Precision → ℕ → Cell → Cell → Outcome (List (List (List Face)))
fused_of op t room a b = then (pieces_of op t room a b) (fuse_cells t room)

-- "A fused answer is bodies, their shells, their facets, each with its plane and its cycle of corner coordinates"
unfoldable pub fuse_call : Operation → Precision → ℕ → Cell → Cell → Outcome (List ℕ)
fuse_call op t room a b = answer_of (fused_of op t room a b)
