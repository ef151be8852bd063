use Prim.Native.Nat.{◌-◌}
use Rattle.edges.specs.Pairing.{Walking}
use Rattle.edges.proofs.walk_edges.Given as goal

abbrev pub invariant-loop-m : goal.invariant-loop-m
invariant-loop-m l = Walking l.d l.k l.s l.c l.initial.ends l.ends l.m

abbrev pub decreases-loop-m : goal.decreases-loop-m
decreases-loop-m l = l.c - l.m.at
