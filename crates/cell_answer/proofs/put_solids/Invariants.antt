use lib.ListN.{take}
use Rattle.finish.specs.Finish.{solids_at}
use Rattle.cell_answer.specs.Laws.{Putting}
use Rattle.cell_answer.proofs.put_solids.Given as goal

abbrev pub invariant-loop-j : goal.invariant-loop-j
invariant-loop-j l = Putting (solids_at l.points l.places l.counts (take l.many l.marks) (take l.many l.sizes)) l.initial.out l.out l.p l.q l.f l.at l.j
