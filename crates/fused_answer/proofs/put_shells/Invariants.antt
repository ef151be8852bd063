use Rattle.fused_answer.specs.Bodies.{Shelling}
use Rattle.fused_answer.proofs.put_shells.Given as goal

abbrev pub invariant-loop-j : goal.invariant-loop-j
invariant-loop-j l = Shelling l.s l.spots l.points l.v l.starts l.facets l.sizes l.from l.sat l.k l.initial.out l.at l.out l.sense l.p l.q l.j
