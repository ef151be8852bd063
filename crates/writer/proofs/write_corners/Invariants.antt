use Rattle.pack.specs.Flat.{corner_record}
use Rattle.writer.specs.Rows.{NumberRow}
use Rattle.writer.proofs.write_corners.Given as goal

abbrev pub invariant-loop-i : goal.invariant-loop-i
invariant-loop-i l = NumberRow corner_record 3 l.places l.k l.n l.initial.out l.at l.out l.i
