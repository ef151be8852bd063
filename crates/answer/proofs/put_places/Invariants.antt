use Rattle.words.specs.Little.{digits}
use Rattle.writer.specs.Rows.{NumberRow}
use Rattle.answer.proofs.put_places.Given as goal

abbrev pub invariant-loop-i : goal.invariant-loop-i
invariant-loop-i l = NumberRow (digits 4) 4 l.places l.k l.n l.initial.out l.at l.out l.i
