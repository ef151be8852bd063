use borrow.Author.Rules.{rules}
use mathlib.Core.Path.{◌≡◌, sym, ap, ◌∙◌}
use Rattle.std.specs.Prelude.{Err}
use Rattle.refusal.specs.Outcome.{verdict_of}
use Rattle.solids.specs.Frames.{framed_all}
use Rattle.solids.specs.Faces.{facing_start, facing_room, facing_go, facing_stop, facing_end}
use Rattle.solids.proofs.all_framed.Goals as goal

pub loop-j-init : goal.loop-j-init
loop-j-init c = facing_start _ _ _ _ c.requires.2

pub plane_for-requires : goal.plane_for-requires
plane_for-requires c = (c.requires.0, facing_room c.loop-j.invariant c.requires.1 c.loop-j-test.true)

pub returns-in_err-plane_for : goal.returns-in_err-plane_for
unfolding framed_all verdict_of
returns-in_err-plane_for c =
    let told : c.from_residual.result ≡ Err c.in_err-plane_for.field-0.0 = search rules in
    told ∙ sym (facing_stop c.loop-j.invariant c.requires.1 _ c.loop-j-test.true (ap verdict_of (sym c.plane_for.ensures ∙ c.in_err-plane_for.was)))

pub overflow_add-at : goal.overflow_add-at
overflow_add-at c =
    let r = facing_room c.loop-j.invariant c.requires.1 c.loop-j-test.true in
    search rules

pub loop-j-preserved : goal.loop-j-preserved
unfolding verdict_of
loop-j-preserved c =
    facing_go c.loop-j.invariant c.requires.1 c.loop-j-test.true (ap verdict_of (sym c.plane_for.ensures ∙ c.in_ok-plane_for.was))

pub returns : goal.returns
unfolding framed_all
returns c = sym (facing_end c.loop-j.invariant c.requires.1 c.loop-j-test.false)
