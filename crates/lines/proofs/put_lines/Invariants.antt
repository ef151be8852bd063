use Prim.Native.Nat.{◌-◌}
use lib.ListN.{length}
use Rattle.lines.specs.Turns.{Printing}
use Rattle.lines.proofs.put_lines.Given as goal

abbrev pub invariant-loop-s : goal.invariant-loop-s
invariant-loop-s l = Printing l.bytes l.initial.out l.initial.end l.out l.end l.s

abbrev pub decreases-loop-s : goal.decreases-loop-s
decreases-loop-s l = length l.bytes - l.s.at
