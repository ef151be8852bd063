use borrow.Author.Rules.{rules}
use mathlib.Core.Path.{◌≡◌, refl, sym, ◌∙◌}
use Rattle.std.specs.Prelude.{Err}
use Rattle.bounds.specs.Bounds.{points_in}
use Rattle.bounds.specs.Laws.{passing_go, passing_stop, passing_end}
use Rattle.bounds.proofs.points_in.Goals as goal

pub loop-i-init : goal.loop-i-init
loop-i-init c = record { upto = search rules; rest = refl }

pub returns-in_err-point_in : goal.returns-in_err-point_in
unfolding points_in
returns-in_err-point_in c =
    let told : c.from_residual.result ≡ Err c.in_err-point_in.field-0.0 = search rules in
    told ∙ sym (passing_stop c.loop-i.invariant _ c.loop-i-test.true c.get_point-q.ensures (sym c.point_in.ensures ∙ c.in_err-point_in.was))

pub loop-i-preserved : goal.loop-i-preserved
loop-i-preserved c =
    passing_go c.loop-i.invariant c.loop-i-test.true c.get_point-q.ensures (sym c.point_in.ensures ∙ c.in_ok-point_in.was)

pub returns : goal.returns
unfolding points_in
returns c = sym (passing_end c.loop-i.invariant c.loop-i-test.false)
