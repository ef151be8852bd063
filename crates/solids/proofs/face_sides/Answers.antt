use borrow.Author.Rules.{rules}
use mathlib.Core.Path.{◌≡◌, refl, sym, ◌∙◌}
use Rattle.std.specs.Prelude.{Err}
use Rattle.solids.specs.Laws.{judged_go, judged_stop, judged_end}
use Rattle.solids.proofs.face_sides.Goals as goal

pub loop-x-init : goal.loop-x-init
loop-x-init c = record { upto = search rules; rest = refl }

pub returns-in_err-b : goal.returns-in_err-b
returns-in_err-b c =
    let told : c.from_residual.result ≡ Err c.in_err-b.field-0.0 = search rules in
    told ∙ sym (judged_stop c.loop-x.invariant _ c.loop-x-test.true c.is_corner-own.ensures c.get_point-q.ensures c.side_of.ensures (sym c.judge_side.ensures ∙ c.in_err-b.was))

pub loop-x-preserved : goal.loop-x-preserved
loop-x-preserved c =
    judged_go c.loop-x.invariant _ c.loop-x-test.true c.is_corner-own.ensures c.get_point-q.ensures c.side_of.ensures (sym c.judge_side.ensures ∙ c.in_ok-b.was)

pub returns : goal.returns
returns c = c.some_below.ensures ∙ sym (judged_end c.loop-x.invariant c.loop-x-test.false)
