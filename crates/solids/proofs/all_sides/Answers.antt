use borrow.Author.Rules.{rules}
use mathlib.Core.Path.{◌≡◌, sym, ap, ◌∙◌}
use lib.ListN.{get_or}
use Rattle.std.specs.Prelude.{Err}
use Rattle.polygon.specs.Memory.{points_at}
use Rattle.room.specs.Rooms.{counts_at}
use Rattle.solids.specs.Frames.{sides_by, sides_all}
use Rattle.solids.specs.Faces.{facing_start, facing_room, facing_go, facing_stop, facing_end}
use Rattle.solids.proofs.all_sides.Goals as goal

pub loop-j-init : goal.loop-j-init
loop-j-init c = facing_start _ _ _ _ c.requires.2

pub plane_for-requires : goal.plane_for-requires
plane_for-requires c = (c.requires.0, facing_room c.loop-j.invariant c.requires.1 c.loop-j-test.true)

pub returns-in_err-w : goal.returns-in_err-w
unfolding sides_all sides_by
returns-in_err-w c =
    let A = c.args in
    let told : c.from_residual.result ≡ Err c.in_err-w.field-0.0 = search rules in
    told ∙ sym (facing_stop c.loop-j.invariant c.requires.1 _ c.loop-j-test.true (ap (λ o. sides_by A.given A.t o (counts_at A.places.now c.loop-j.at (get_or A.counts.now c.loop-j.j 0)) (points_at A.points.now 0 A.m)) (sym c.plane_for.ensures ∙ c.in_err-w.was)))

pub face_checked-requires : goal.face_checked-requires
face_checked-requires c = (facing_room c.loop-j.invariant c.requires.1 c.loop-j-test.true, c.requires.0)

pub returns-in_err-face_checked : goal.returns-in_err-face_checked
unfolding sides_all sides_by
returns-in_err-face_checked c =
    let A = c.args in
    let told : c.from_residual-in_err-face_checked.result ≡ Err c.in_err-face_checked.field-0.0 = search rules in
    told ∙ sym (facing_stop c.loop-j.invariant c.requires.1 _ c.loop-j-test.true (ap (λ o. sides_by A.given A.t o (counts_at A.places.now c.loop-j.at (get_or A.counts.now c.loop-j.j 0)) (points_at A.points.now 0 A.m)) (sym c.plane_for.ensures ∙ c.in_ok-w.was) ∙ sym c.face_checked.ensures ∙ c.in_err-face_checked.was))

pub overflow_add-at : goal.overflow_add-at
overflow_add-at c =
    let r = facing_room c.loop-j.invariant c.requires.1 c.loop-j-test.true in
    search rules

pub loop-j-preserved : goal.loop-j-preserved
unfolding sides_by
loop-j-preserved c =
    let A = c.args in
    facing_go c.loop-j.invariant c.requires.1 c.loop-j-test.true (ap (λ o. sides_by A.given A.t o (counts_at A.places.now c.loop-j.at (get_or A.counts.now c.loop-j.j 0)) (points_at A.points.now 0 A.m)) (sym c.plane_for.ensures ∙ c.in_ok-w.was) ∙ sym c.face_checked.ensures ∙ c.in_ok-face_checked.was)

pub returns : goal.returns
unfolding sides_all
returns c = sym (facing_end c.loop-j.invariant c.requires.1 c.loop-j-test.false)
