use Rattle.cut_leaves.proofs.Guards.{Scanning}
use Rattle.cut_leaves.proofs.within_fits.Given as goal

abbrev pub invariant-loop-i : goal.invariant-loop-i
invariant-loop-i l = Scanning l.m l.from l.sizes l.j l.faces l.o l.i
