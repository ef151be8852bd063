use borrow.Author.Rules.{rules}
use mathlib.Core.Path.{sym, ◌∙◌}
use Prim.Native.Nat.{◌/◌}
use lib.ListN.{length}
use Rattle.mesh.specs.Laws.{finite_go, finite_end}
use Rattle.mesh.proofs.are_finite.Goals as goal

pub loop-i-preserved : goal.loop-i-preserved
loop-i-preserved c =
    let s = c.args.s.now in
    let e = finite_go s (length s / 3) c.loop-i.i c.loop-i.fair c.corner.result c.is_finite_point-fair.result c.loop-i-test.true c.corner.ensures c.is_finite_point-fair.ensures in
    (search rules, sym e ∙ c.loop-i.invariant.1)

pub returns : goal.returns
returns c =
    let s = c.args.s.now in
    sym (finite_end s (length s / 3) c.loop-i.i c.loop-i.fair c.loop-i-test.false) ∙ c.loop-i.invariant.1
