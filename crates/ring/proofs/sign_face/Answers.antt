use Rattle.std.specs.Prelude.{Err, ◌≡◌}
use mathlib.Core.Path.{sym, ◌∙◌}
use Rattle.std.proofs.Common.{rules}
use Rattle.refusal.specs.Laws.{stop, go}
use Rattle.ring.specs.Laws.{signing_start, signing_step, signing_stop, signing_end}
use Rattle.ring.proofs.sign_face.Goals as goal

pub returns-in_err-seen : goal.returns-in_err-seen
returns-in_err-seen c =
    let told : c.from_residual.result ≡ Err c.in_err-seen.field-0.0 = search rules in
    told ∙ sym (stop _ _ _ c.in_err-seen.was)

pub loop-i-init : goal.loop-i-init
loop-i-init c = signing_start _ _ _ _ _ _

pub returns-in_err-out : goal.returns-in_err-out
returns-in_err-out c =
    let told : c.from_residual-in_err-out.result ≡ Err c.in_err-out.field-0.0 = search rules in
    told ∙ signing_stop _ _ _ _ _ _ _ _ _ _ _ c.loop-i-test.true c.get_point-q.ensures c.side_of.ensures c.note.ensures c.loop-i.invariant _ c.in_err-out.was
    ∙ sym (go _ _ _ c.in_ok-seen.was)

pub loop-i-preserved : goal.loop-i-preserved
loop-i-preserved c =
    signing_step _ _ _ _ _ _ _ _ _ _ _ c.loop-i-test.true c.get_point-q.ensures c.side_of.ensures c.note.ensures c.loop-i.invariant _ c.in_ok-out.was

pub returns : goal.returns
returns c = signing_end _ _ _ _ _ _ _ _ c.loop-i-test.false c.loop-i.invariant ∙ sym (go _ _ _ c.in_ok-seen.was)
