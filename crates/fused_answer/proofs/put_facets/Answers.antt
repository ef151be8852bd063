use Rattle.fused_answer.specs.Growing.{growing_start, growing_inside, growing_turn, growing_end}
use Rattle.fused_answer.proofs.put_facets.Goals as goal

pub loop-facet-init : goal.loop-facet-init
loop-facet-init c = growing_start _ _ _ _

pub put_facet-p-requires : goal.put_facet-p-requires
put_facet-p-requires c =
    let L = c.loop-facet in
    let h = c.loop-facet-test.true in
    (c.requires.0, c.requires.1 L.facet-index h, growing_inside 0 L.invariant h c.requires.2)

pub loop-facet-preserved : goal.loop-facet-preserved
loop-facet-preserved c =
    let L = c.loop-facet in
    let h = c.loop-facet-test.true in
    let U = c.put_facet-p in
    growing_turn 0 L.invariant h _ _ U.ensures.out_after U.ensures.value

pub shape_of-out : goal.shape_of-out
shape_of-out c = c.loop-facet.invariant.same

pub returns : goal.returns
returns c = record { value = (growing_end c.loop-facet.invariant c.loop-facet-test.false).0; out_after = (growing_end c.loop-facet.invariant c.loop-facet-test.false).1 }
