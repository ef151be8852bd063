use Rattle.listing.specs.Appended.{Copying}
use Rattle.listing.proofs.copy_part.Given as goal

abbrev pub invariant-loop-i : goal.invariant-loop-i
invariant-loop-i l = Copying l.s l.a l.e l.initial.out l.at l.out l.i
