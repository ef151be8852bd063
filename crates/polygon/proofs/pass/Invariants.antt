use Rattle.lists.specs.Walks.{Run}
use Rattle.polygon.specs.Memory.{far_at}
use Rattle.polygon.proofs.pass.Given as goal

abbrev pub invariant-loop-k : goal.invariant-loop-k
invariant-loop-k l = Run (far_at l.g l.q l.points) l.m l.i l.k
