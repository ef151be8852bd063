use Rattle.edges.specs.Laid.{Rounding}
use Rattle.edges.proofs.face_runs.Given as goal

abbrev pub invariant-loop-i : goal.invariant-loop-i
invariant-loop-i l = Rounding l.v l.a l.e l.p l.c l.initial.d l.d l.i
