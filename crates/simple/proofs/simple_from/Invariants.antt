use mathlib.Core.Path.{◌≡◌}
use Prim.Native.Nat.{◌+◌, ◌-◌, ◌≤◌}
use Rattle.outline.specs.Project.{points_of}
use Rattle.simple.specs.Simple.{each_of, pair_at, simple_from}
use Rattle.simple.proofs.simple_from.Given as goal

abbrev pub invariant-loop-j : goal.invariant-loop-j
invariant-loop-j l = (l.i + 1 ≤ l.j) × (l.j ≤ l.n) × (each_of (pair_at l.p (points_of l.o) l.n l.i) l.j (l.n - l.j) ≡ simple_from l.p (points_of l.o) l.n l.i)
