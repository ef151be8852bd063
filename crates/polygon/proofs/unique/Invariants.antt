use Rattle.polygon.specs.Memory.{points_at}
use Rattle.polygon.proofs.Turns.{Scanned, Kept}
use Rattle.polygon.proofs.unique.Given as goal

abbrev pub invariant-loop-j : goal.invariant-loop-j
invariant-loop-j l = Scanned l.t l.q l.out.at l.m l.s l.j

abbrev pub invariant-loop-i : goal.invariant-loop-i
invariant-loop-i l = Kept l.t (points_at l.points l.at l.n) l.n l.out.at l.m l.i
