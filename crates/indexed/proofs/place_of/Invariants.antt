use Prim.Native.Nat.{◌-◌}
use Rattle.indexed.specs.Laws.{Searched}
use Rattle.indexed.proofs.place_of.Given as goal

abbrev pub invariant-loop-i : goal.invariant-loop-i
invariant-loop-i l = Searched l.t l.q l.points l.m l.i

abbrev pub decreases-loop-i : goal.decreases-loop-i
decreases-loop-i l = l.m - l.i
