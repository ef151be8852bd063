use Rattle.std.proofs.lemmas.Result.{err_from_is_err_and}
use Rattle.std.specs.Prelude.{Err}
use mathlib.Core.Path.{refl, ap, ◌∙◌}
use Rattle.indexed.proofs.Laws.{taking_start, taking_step, taking_stop, taking_end}
use Rattle.indexed.proofs.index_face.Goals as goal

pub loop-j-init : goal.loop-j-init
loop-j-init c = taking_start _ _ _ _ _ _ _ _

pub returns-in_err-c : goal.returns-in_err-c
returns-in_err-c c =
    let p = err_from_is_err_and c.from_residual.result c.from_residual.ensures.1 in
    taking_stop c.loop-j.invariant c.requires.1 _ _ _ _ _ _ c.loop-j-test.true c.get_point-q.ensures c.in_err-c.was (p.1 ∙ ap Err p.2) c.index_point.ensures

pub loop-j-preserved : goal.loop-j-preserved
loop-j-preserved c =
    taking_step c.loop-j.invariant c.requires.1 _ _ _ _ _ c.loop-j-test.true c.get_point-q.ensures c.in_ok-c.was c.index_point.ensures

pub returns : goal.returns
returns c =
    taking_end c.loop-j.invariant c.requires.1 _ c.loop-j-test.false refl
