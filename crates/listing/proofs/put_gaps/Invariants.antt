use Rattle.listing.specs.Appended.{Gapping}
use Rattle.listing.proofs.put_gaps.Given as goal

abbrev pub invariant-loop-i : goal.invariant-loop-i
invariant-loop-i l = Gapping l.c l.a l.n l.initial.out l.at l.out l.i
