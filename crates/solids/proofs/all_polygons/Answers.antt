use mathlib.Core.Path.{sym, ◌∙◌}
use Rattle.solids.specs.Order.{within}
use Rattle.solids.specs.Faces.{counts_next, counts_end}
use Rattle.solids.proofs.all_polygons.Goals as goal

pub loop-j-preserved : goal.loop-j-preserved
loop-j-preserved c =
    let A = c.args in
    rw c.is_within-fine.ensures (sym (counts_next (within 3 64) c.loop-j.fine A.counts.now A.n c.loop-j.j c.loop-j-test.true c.requires) ∙ c.loop-j.invariant)

pub returns : goal.returns
returns c =
    let A = c.args in
    sym (counts_end (within 3 64) c.loop-j.fine A.counts.now A.n c.loop-j.j c.loop-j-test.false) ∙ c.loop-j.invariant
