use mathlib.Core.Path.{◌≡◌}
use Prim.Native.Nat.{◌≤◌}
use lib.ListN.{take}
use Rattle.ears.specs.Places.{padded, places_of, without}
use Rattle.ears.proofs.remove.Given as goal

abbrev pub invariant-loop-j : goal.invariant-loop-j
invariant-loop-j l = (l.j ≤ l.last) × (l.out.at ≡ padded (take l.j (without l.i (places_of l.a))))
