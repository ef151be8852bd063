use Rattle.fused_answer.specs.Fused.{facet_bytes}
use Rattle.fused_answer.specs.Growing.{Growing}
use Rattle.fused_answer.proofs.put_facets.Given as goal

abbrev pub invariant-loop-facet : goal.invariant-loop-facet
invariant-loop-facet l = Growing (facet_bytes l.s l.spots l.points l.v l.starts) l.facets l.initial.out l.at l.out l.p l.facet-index
