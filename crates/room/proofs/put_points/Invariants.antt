use mathlib.Core.Path.{◌≡◌}
use Prim.Native.Nat.{◌+◌, ◌*◌}
use lib.ListN.{length, drop}
use lib.Seq.{sets}
use Rattle.polygon.specs.Polygons.{corners_of}
use Rattle.polygon.specs.Memory.{floats_of}
use Rattle.room.proofs.put_points.Given as goal

abbrev pub invariant-loop-i : goal.invariant-loop-i
invariant-loop-i l = (length l.s ≡ length l.initial.s) × (sets l.s (l.at + 3 * l.i) (floats_of (drop l.i (corners_of l.p))) ≡ sets l.initial.s l.at (floats_of (corners_of l.p)))
