use Rattle.lines.specs.Turns.{Skipping}
use Rattle.lines.proofs.behind_facets.Given as goal

abbrev pub invariant-loop : goal.invariant-loop
invariant-loop l = Skipping l.s l.from l.m l.at l.counter
