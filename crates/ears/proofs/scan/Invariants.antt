use mathlib.Core.Path.{◌≡◌}
use Prim.Native.Nat.{◌-◌, ◌≤◌}
use lib.ListN.{drop}
use Rattle.outline.specs.Project.{points_of}
use Rattle.ears.specs.declared.Found.TheVariants as F
use Rattle.ears.specs.Places.{places_of}
use Rattle.ears.specs.Ears.{blocked_by, scan_from, scan_of}
use Rattle.ears.proofs.scan.Given as goal

abbrev pub invariant-loop-j : goal.invariant-loop-j
invariant-loop-j l =
    (l.found ≡ F.Nothing) × (l.j ≤ l.active.n) × (blocked_by l.p (points_of l.o) l.w (drop l.j (places_of l.active)) ≡ blocked_by l.p (points_of l.o) l.w (places_of l.active))

abbrev pub decreases-loop-j : goal.decreases-loop-j
decreases-loop-j l = l.active.n - l.j

abbrev pub invariant-corners : goal.invariant-corners
invariant-corners l =
    (l.found ≡ F.Nothing) × (scan_from l.p (points_of l.o) (places_of l.active) l.i (l.active.n - l.i) ≡ scan_of l.p (points_of l.o) (places_of l.active))
