use Rattle.ring.specs.Laws.{Signing}
use Rattle.ring.proofs.sign_face.Given as goal

abbrev pub invariant-loop-i : goal.invariant-loop-i
invariant-loop-i l = Signing l.t l.plane l.src l.at l.n l.initial.out l.out l.i
