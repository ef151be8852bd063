use Rattle.shells.specs.Faces.{Keeping}
use Rattle.shells.proofs.body_faces.Given as goal

abbrev pub invariant-loop-i : goal.invariant-loop-i
invariant-loop-i l = Keeping l.owners l.ext l.cells l.initial.faces l.faces l.m l.i-index
