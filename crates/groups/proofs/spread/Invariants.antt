use Prim.Native.Nat.{◌-◌}
use Rattle.groups.specs.Stack.{Mid}
use Rattle.groups.proofs.spread.Given as goal

abbrev pub invariant-loop-e : goal.invariant-loop-e
invariant-loop-e l = Mid l.ends l.all l.next l.i l.initial.seen l.initial.work l.top l.seen l.work l.t l.e

abbrev pub decreases-loop-e : goal.decreases-loop-e
decreases-loop-e l = l.all - l.e
