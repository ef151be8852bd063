use Prim.Native.Nat.{◌-◌}
use lib.ListN.{length}
use Rattle.sums.specs.Components.{gather}
use Rattle.groups.specs.Chain.{around}
use Rattle.groups.specs.Stack.{state}
use Rattle.groups.specs.Walk.{Going}
use Rattle.groups.proofs.walk_from.Given as goal

abbrev pub invariant-loop-top : goal.invariant-loop-top
invariant-loop-top l = Going (around l.ends l.all) (length l.initial.seen) (gather (around l.ends l.all) (length l.initial.seen) (state l.initial.seen l.initial.work l.initial.top)) l.initial.p l.initial.work l.initial.nodes l.seen l.work l.nodes l.top l.p

abbrev pub decreases-loop-top : goal.decreases-loop-top
decreases-loop-top l = length l.initial.nodes - l.p
