use Rattle.solid_mesh.specs.Laws.{Drawing}
use Rattle.solid_mesh.proofs.put_triples.Given as goal

abbrev pub invariant-loop-i : goal.invariant-loop-i
invariant-loop-i l = Drawing l.t l.initial.out l.out l.i
