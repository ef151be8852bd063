use Rattle.std.specs.Prelude.{Err}
use borrow.Author.Rules.{rules}
use mathlib.Core.Path.{◌≡◌, refl, sym, ◌∙◌}
use Rattle.offset.specs.Laws.{shifting_start, shifting_step, shifting_stop, shifting_end}
use Rattle.offset.proofs.move_points.Goals as goal

pub loop-x-init : goal.loop-x-init
loop-x-init c = shifting_start _ _ _ _ _

pub returns-in_err-q : goal.returns-in_err-q
returns-in_err-q c =
    let told : c.from_residual.result ≡ Err c.in_err-q.field-0.0 = search rules in
    shifting_stop c.loop-x.invariant _ _ c.loop-x-test.true c.get_point-p.ensures c.meeting_at-meeting.ensures (sym c.moved.ensures ∙ c.in_err-q.was) told

pub loop-x-preserved : goal.loop-x-preserved
loop-x-preserved c =
    shifting_step c.loop-x.invariant _ _ c.loop-x-test.true c.get_point-p.ensures c.meeting_at-meeting.ensures (sym c.moved.ensures ∙ c.in_ok-q.was) c.put_point.ensures

pub returns : goal.returns
returns c = shifting_end c.loop-x.invariant _ c.loop-x-test.false refl
