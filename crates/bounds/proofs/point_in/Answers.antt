use borrow.Author.Rules.{rules}
use mathlib.Core.Path.{◌≡◌, sym, ap, ◌∙◌}
use native.Mathlib.Omega.{arith}
use Rattle.side.specs.Sides.{side_of}
use Rattle.std.specs.Prelude.{Err}
use Rattle.bounds.specs.Bounds.{judged, point_in}
use Rattle.bounds.specs.Laws.{testing_start, testing_inside, testing_go, testing_stop, testing_end}
use Rattle.bounds.proofs.point_in.Goals as goal

pub loop-i-init : goal.loop-i-init
loop-i-init c = testing_start _ _ _ _ _ _ c.requires

pub returns-in_err-judge : goal.returns-in_err-judge
unfolding point_in
returns-in_err-judge c =
    let told : c.from_residual.result ≡ Err c.in_err-judge.field-0.0 = search rules in
    told ∙ sym (testing_stop c.loop-i.invariant c.requires _ c.loop-i-test.true (ap (λ w. judged c.args.strict (side_of c.args.t w c.args.q)) (sym c.get_plane-w.ensures) ∙ ap (judged c.args.strict) (sym c.side_of.ensures) ∙ sym c.judge.ensures ∙ c.in_err-judge.was))

pub loop-i-preserved : goal.loop-i-preserved
loop-i-preserved c =
    testing_go c.loop-i.invariant c.requires c.loop-i-test.true (ap (λ w. judged c.args.strict (side_of c.args.t w c.args.q)) (sym c.get_plane-w.ensures) ∙ ap (judged c.args.strict) (sym c.side_of.ensures) ∙ sym c.judge.ensures ∙ c.in_ok-judge.was)

pub returns : goal.returns
unfolding point_in
returns c =
    sym (testing_end c.loop-i.invariant c.requires c.loop-i-test.false)
