use Rattle.job.specs.Written.{point_bytes}
use Rattle.writer.specs.Rows.{PointRow}
use Rattle.answer.proofs.put_points.Given as goal

abbrev pub invariant-loop-i : goal.invariant-loop-i
invariant-loop-i l = PointRow point_bytes 24 l.s l.from l.m l.initial.out l.at l.out l.i
