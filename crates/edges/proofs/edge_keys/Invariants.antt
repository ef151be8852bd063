use Rattle.edges.specs.Rims.{Rimmed}
use Rattle.edges.proofs.edge_keys.Given as goal

abbrev pub invariant-loop-x : goal.invariant-loop-x
invariant-loop-x l = Rimmed l.d l.c l.initial.k l.initial.s l.k l.s l.x
