use Prim.Native.Nat.{◌-◌}
use Rattle.interfaces.specs.Steps.{Walking}
use Rattle.interfaces.proofs.meet_facets.Given as goal

abbrev pub invariant-loop-m : goal.invariant-loop-m
invariant-loop-m l = Walking l.v l.starts l.owners l.k l.f l.initial.ext l.initial.ends l.ext l.ends l.m

abbrev pub decreases-loop-m : goal.decreases-loop-m
decreases-loop-m l = l.f - l.m.at
