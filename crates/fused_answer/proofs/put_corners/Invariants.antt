use Rattle.writer.specs.Rows.{NumberRow}
use Rattle.fused_answer.specs.Fused.{corner_bytes}
use Rattle.fused_answer.proofs.put_corners.Given as goal

abbrev pub invariant-loop-i : goal.invariant-loop-i
invariant-loop-i l = NumberRow (corner_bytes l.points) 24 l.v l.a l.n l.initial.out l.at l.out l.i
