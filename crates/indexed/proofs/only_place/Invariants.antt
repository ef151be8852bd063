use Prim.Native.Nat.{◌-◌}
use Rattle.indexed.specs.Laws.{Meeting}
use Rattle.indexed.proofs.only_place.Given as goal

abbrev pub invariant-loop-i : goal.invariant-loop-i
invariant-loop-i l = Meeting l.t l.q l.points l.m l.h l.i

abbrev pub decreases-loop-i : goal.decreases-loop-i
decreases-loop-i l = l.m - l.i
