use Rattle.clip.specs.Laws.{Signed}
use Rattle.clip.proofs.sign_cell.Given as goal

abbrev pub invariant-loop-i : goal.invariant-loop-i
invariant-loop-i l = Signed l.t l.plane l.src l.from l.sizes l.j l.faces l.s l.o l.i
