use Rattle.words.proofs.Turns.{Putting}
use Rattle.words.proofs.put_digits.Given as goal

abbrev pub invariant-loop-i : goal.invariant-loop-i
invariant-loop-i l = Putting l.initial.out l.at l.n l.x l.out l.rest l.i
