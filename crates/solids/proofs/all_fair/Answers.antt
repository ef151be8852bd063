use mathlib.Core.Path.{refl, sym, ◌∙◌}
use Rattle.space.specs.Vector.{fair_point}
use Rattle.solids.specs.Order.{fair_all}
use Rattle.solids.specs.Faces.{points_next, points_end}
use Rattle.solids.proofs.all_fair.Goals as goal

pub loop-i-init : goal.loop-i-init
unfolding fair_all
loop-i-init c = refl

pub loop-i-preserved : goal.loop-i-preserved
loop-i-preserved c =
    let A = c.args in
    rw c.is_fair_point-fine.ensures (sym (points_next fair_point c.loop-i.fine A.points.now A.m c.loop-i.i _ c.loop-i-test.true c.get_point.ensures) ∙ c.loop-i.invariant)

pub returns : goal.returns
returns c =
    let A = c.args in
    sym (points_end fair_point c.loop-i.fine A.points.now A.m c.loop-i.i c.loop-i-test.false) ∙ c.loop-i.invariant
