use mathlib.Core.Path.{ap, ◌∙◌}
use Rattle.volume.specs.Volume.{volume_from}
use Rattle.volume.specs.Shell.{shell_points, summing_start, summing_step, summing_end, facet_start, facet_next, facet_some, facet_end}
use borrow.Author.Rules.{rules}
use native.Mathlib.Omega.{arith}
use Rattle.volume.proofs.shell_volume.Goals as goal

pub loop-facet-init : goal.loop-facet-init
loop-facet-init c = search (rules, summing_start)

pub offset_bounds-starts-k : goal.offset_bounds-starts-k
offset_bounds-starts-k c =
    let a = c.args in
    omega (arith, facet_start a.v.now a.starts.now a.shell.now c.loop-facet.facet-index c.requires.1 c.loop-facet-test.true)

pub bounds-starts-k : goal.bounds-starts-k
bounds-starts-k c = search (rules, facet_start)

pub overflow_add-e : goal.overflow_add-e
overflow_add-e c =
    let a = c.args in
    omega (arith, facet_next a.v.now a.starts.now a.shell.now c.loop-facet.facet-index c.requires.1 c.loop-facet-test.true)

pub offset_bounds-starts-k-in-loop-facet : goal.offset_bounds-starts-k-in-loop-facet
offset_bounds-starts-k-in-loop-facet c =
    let a = c.args in
    omega (arith, facet_next a.v.now a.starts.now a.shell.now c.loop-facet.facet-index c.requires.1 c.loop-facet-test.true)

pub bounds-starts-k-in-loop-facet : goal.bounds-starts-k-in-loop-facet
bounds-starts-k-in-loop-facet c = search (rules, facet_next)

pub add_fan-total-requires : goal.add_fan-total-requires
add_fan-total-requires c = (search rules, search (rules, facet_some), search (rules, facet_end))

pub loop-facet-preserved : goal.loop-facet-preserved
loop-facet-preserved c = search (rules, summing_step)

pub returns : goal.returns
returns c =
    let a = c.args in
    let l = c.loop-facet in
    summing_end a.points.now a.v.now a.starts.now a.shell.now a.origin _ l.total l.facet-index c.loop-facet-test.false l.invariant
    ∙ ap (λ z. volume_from a.origin z (shell_points a.points.now a.v.now a.starts.now a.shell.now)) c.point-total.ensures
