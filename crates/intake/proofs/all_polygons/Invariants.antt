use Prim.Native.Nat.{◌-◌}
use lib.ListN.{length}
use Rattle.intake.specs.Laws.{Facing}
use Rattle.intake.proofs.all_polygons.Given as goal

abbrev pub invariant-loop-n : goal.invariant-loop-n
invariant-loop-n l = Facing l.job l.middle l.fine l.at

abbrev pub decreases-loop-n : goal.decreases-loop-n
decreases-loop-n l = length l.job - l.at
