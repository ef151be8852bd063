use Rattle.arrangement.specs.Laws.{Starting}
use Rattle.arrangement.proofs.starts_of.Given as goal

abbrev pub invariant-loop-i : goal.invariant-loop-i
invariant-loop-i l =
    Starting l.lengths l.n l.initial.starts l.starts l.at l.i
