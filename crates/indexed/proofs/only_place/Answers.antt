use Rattle.std.proofs.lemmas.Result.{err_from_is_err_and}
use mathlib.Core.Path.{sym, ◌∙◌}
use Rattle.indexed.proofs.Laws.{meeting_start, meeting_step, meeting_pass, meeting_stop, meeting_end}
use Rattle.indexed.proofs.only_place.Goals as goal

pub loop-i-init : goal.loop-i-init
loop-i-init c = meeting_pass (meeting_start _ _ _ _) _ c.reach_of-g.ensures c.pass-i.ensures

pub returns-in_err-h : goal.returns-in_err-h
returns-in_err-h c =
    let p = err_from_is_err_and c.from_residual.result c.from_residual.ensures.1 in
    rw (p.1, p.2) (sym (meeting_stop c.loop-i.invariant _ _ _ c.loop-i-test.true c.get_point-p.ensures c.near.ensures (sym c.met.ensures ∙ c.in_err-h.was)))

pub loop-i-preserved : goal.loop-i-preserved
loop-i-preserved c =
    meeting_pass (meeting_step c.loop-i.invariant _ _ _ c.loop-i-test.true c.get_point-p.ensures c.near.ensures (sym c.met.ensures ∙ c.in_ok-h.was)) _ c.reach_of-g.ensures c.pass-i-in-loop-i.ensures

pub returns : goal.returns
returns c = sym (meeting_end c.loop-i.invariant c.loop-i-test.false)
