use Rattle.writer.specs.Rows.{FaceRow}
use Rattle.answer.specs.Answers.{face_answer}
use Rattle.answer.proofs.put_faces.Given as goal

abbrev pub invariant-loop-j : goal.invariant-loop-j
invariant-loop-j l = FaceRow face_answer l.places l.counts l.n l.initial.out l.at l.out l.k l.o l.j
