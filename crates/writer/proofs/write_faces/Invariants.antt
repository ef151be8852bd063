use Rattle.writer.specs.Writing.{face_record}
use Rattle.writer.specs.Rows.{FaceRow}
use Rattle.writer.proofs.write_faces.Given as goal

abbrev pub invariant-loop-j : goal.invariant-loop-j
invariant-loop-j l = FaceRow face_record l.places l.counts l.n l.initial.out l.at l.out l.k l.o l.j
