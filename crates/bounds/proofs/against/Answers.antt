use borrow.Author.Rules.{rules}
use mathlib.Core.Path.{◌≡◌, sym, ◌∙◌}
use native.Mathlib.Omega.{arith}
use Rattle.std.specs.Prelude.{Err}
use Rattle.bounds.specs.Bounds.{against}
use Rattle.bounds.specs.Laws.{testing_start, testing_inside, testing_go, testing_stop, testing_end}
use Rattle.bounds.proofs.against.Goals as goal

pub loop-i-init : goal.loop-i-init
loop-i-init c =
    testing_start _ _ _ _ _ _ c.requires.1

pub points_in-requires : goal.points_in-requires
points_in-requires c =
    (c.requires.0, testing_inside c.loop-i.invariant c.requires.1 c.loop-i-test.true)

pub returns-in_err-points_in : goal.returns-in_err-points_in
unfolding against
returns-in_err-points_in c =
    let told : c.from_residual.result ≡ Err c.in_err-points_in.field-0.0 = search rules in
    told ∙ sym (testing_stop c.loop-i.invariant c.requires.1 _ c.loop-i-test.true (sym c.points_in.ensures ∙ c.in_err-points_in.was))

pub loop-i-preserved : goal.loop-i-preserved
loop-i-preserved c =
    testing_go c.loop-i.invariant c.requires.1 c.loop-i-test.true (sym c.points_in.ensures ∙ c.in_ok-points_in.was)

pub returns : goal.returns
unfolding against
returns c =
    sym (testing_end c.loop-i.invariant c.requires.1 c.loop-i-test.false)
