use mathlib.Core.Path.{◌≡◌}
use mathlib.Core.Bool.{true, false}
use Prim.Native.Nat.{◌-◌}
use Rattle.lists.specs.Walks.{all}
use Rattle.groups.specs.Chain.{up_from}
use Rattle.room.specs.Rooms.{counts_at}
use Rattle.solids.specs.Sides.{has}
use Rattle.topology.proofs.all_used.Given as goal

abbrev pub invariant-loop-x : goal.invariant-loop-x
invariant-loop-x l = all (λ x'. has x' false (counts_at l.places 0 l.c)) l.fine (up_from l.x (l.m - l.x)) ≡ all (λ x'. has x' false (counts_at l.places 0 l.c)) true (up_from 0 l.m)
