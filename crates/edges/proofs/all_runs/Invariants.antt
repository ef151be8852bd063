use Rattle.edges.specs.Laid.{Going}
use Rattle.edges.proofs.all_runs.Given as goal

abbrev pub invariant-loop-p : goal.invariant-loop-p
invariant-loop-p l = Going l.v l.starts l.faces l.initial.d l.d l.c l.p
