use mathlib.Core.Path.{◌≡◌}
use Prim.Native.Nat.{◌-◌, ◌≤◌}
use Rattle.outline.specs.Project.{points_of}
use Rattle.simple.specs.Simple.{each_of, simple_from, simple_of}
use Rattle.simple.proofs.simple.Given as goal

abbrev pub invariant-loop-i : goal.invariant-loop-i
invariant-loop-i l = (l.i ≤ l.n) × (each_of (simple_from l.p (points_of l.o) l.n) l.i (l.n - l.i) ≡ simple_of l.p (points_of l.o))
