use Rattle.fused_answer.specs.Bodies.{Bodying}
use Rattle.fused_answer.proofs.put_bodies.Given as goal

abbrev pub invariant-loop-i : goal.invariant-loop-i
invariant-loop-i l = Bodying l.s l.spots l.points l.v l.starts l.facets l.sizes l.shells l.g l.initial.out l.at l.out l.p l.q l.j l.i
