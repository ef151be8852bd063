-- An answer has at most 64 bytes for each corner of the room.
use Rattle.std.specs.Prelude.{◌≡◌, List, ℕ, ◌*◌, ◌≤◌, length, Ok}
use Rattle.std.proofs.Common.{ap, arith}
use Rattle.refusal.specs.Outcome.{Outcome, then}
use Rattle.refusal.specs.Laws.{same_ok, then_ok}
use Rattle.space.specs.declared.Precision.{Precision}
use Rattle.space.specs.Shapes.{Cell}
use Rattle.clip.specs.Clips.{Wide}
use Rattle.job.specs.declared.Operation.{Operation}
use Rattle.pieces.specs.Pieces.{pieces_of}
use Rattle.fused.specs.Bodies.{fuse_cells}
use Rattle.fused_bytes.specs.Bytes.{fused_answer, answer_of}
use Rattle.fused_bytes.specs.Size.{cells_short}
use Rattle.fuse_served.specs.Call.{fused_of, fuse_call}
use Rattle.fuse_served.specs.Wide.{pieces_wide}

pub call_short : (op : Operation) (t : Precision) (room : ℕ) (a b : Cell) (bytes : List ℕ) → fuse_call op t room a b ≡ Ok bytes → Wide a → Wide b → length bytes ≤ 64 * room
unfolding fuse_call answer_of fused_of
call_short op t room a b bytes e x y =
    let f = then_ok (fused_of op t room a b) (λ bs. Ok (fused_answer bs)) bytes e in
    let p = then_ok (pieces_of op t room a b) (fuse_cells t room) f.0 f.1 in
    omega (arith, ap length (same_ok f.2), cells_short t room p.0 f.0 p.2 (pieces_wide t room op a b p.0 p.1 x y))
