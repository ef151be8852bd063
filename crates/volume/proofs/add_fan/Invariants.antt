use Rattle.volume.specs.Shell.{Fanning}
use Rattle.volume.proofs.add_fan.Given as goal

abbrev pub invariant-loop-i : goal.invariant-loop-i
invariant-loop-i l = Fanning l.points l.v l.origin l.s l.e l.initial.total l.a l.total l.i
