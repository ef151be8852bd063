use Rattle.side.specs.Sides.{side_of}
use Rattle.bounds.specs.Bounds.{judged}
use Rattle.bounds.specs.Laws.{Testing}
use Rattle.bounds.proofs.point_in.Given as goal

abbrev pub invariant-loop-i : goal.invariant-loop-i
invariant-loop-i l = Testing (λ b. judged l.strict (side_of l.t b.plane l.q)) l.src l.from l.sizes l.j l.faces l.o l.i
