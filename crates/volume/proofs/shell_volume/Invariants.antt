use Rattle.volume.specs.Shell.{Summing}
use Rattle.volume.proofs.shell_volume.Given as goal

abbrev pub invariant-loop-facet : goal.invariant-loop-facet
invariant-loop-facet l = Summing l.points l.v l.starts l.shell l.origin l.initial.total l.total l.facet-index
