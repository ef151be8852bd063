use Prim.Native.Nat.{◌-◌}
use Rattle.root.proofs.Turns.{Up}
use Rattle.root.proofs.lift.Given as goal

-- `root::lift` meets its contract. Its loop keeps `Up` of `proofs/Turns.antt`. Assumes nothing.
abbrev pub invariant-loop-m : goal.invariant-loop-m
invariant-loop-m l = Up l.d l.m l.j

abbrev pub decreases-loop-m : goal.decreases-loop-m
decreases-loop-m l = 9007199254740992 - l.m
