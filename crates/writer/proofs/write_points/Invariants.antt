use Rattle.pack.specs.Flat.{point_record}
use Rattle.writer.specs.Rows.{PointRow}
use Rattle.writer.proofs.write_points.Given as goal

abbrev pub invariant-loop-i : goal.invariant-loop-i
invariant-loop-i l = PointRow point_record 25 l.points 0 l.m l.initial.out l.at l.out l.i
