use mathlib.Core.Path.{◌≡◌}
use Prim.Native.Nat.{◌+◌, ◌*◌}
use lib.ListN.{length, drop}
use lib.Seq.{sets}
use Rattle.polygon.specs.Memory.{floats_of, points_at}
use Rattle.room.proofs.copy_points.Given as goal

abbrev pub invariant-loop-i : goal.invariant-loop-i
invariant-loop-i l =
    (length l.s ≡ length l.initial.s)
    × (sets l.s (l.at + 3 * l.i) (floats_of (drop l.i (points_at l.src l.from l.n))) ≡ sets l.initial.s l.at (floats_of (points_at l.src l.from l.n)))
