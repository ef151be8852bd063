use mathlib.Core.Path.{sym, ◌∙◌}
use Rattle.solid_check.proofs.Storing.{putting_start, putting_long, putting_room, putting_go, putting_stop, putting_end}
use borrow.Author.Rules.{rules}
use Rattle.solid_check.proofs.put_faces.Goals as goal

pub loop-j-init : goal.loop-j-init
loop-j-init c = search (rules, putting_start)

pub plane_for-requires : goal.plane_for-requires
plane_for-requires c =
    let r = putting_room c.loop-j.invariant c.requires.1 c.loop-j-test.true c.requires.3 in
    search rules

pub shape_of-s-in_default : goal.shape_of-s-in_default
shape_of-s-in_default c =
    putting_long c.loop-j.invariant c.requires.1

pub returns-in_default : goal.returns-in_default
returns-in_default c =
    putting_stop c.loop-j.invariant c.requires.1 _ c.loop-j-test.true (sym c.plane_for.ensures ∙ c.in_default.is)

pub put_face-requires : goal.put_face-requires
put_face-requires c =
    let r = putting_room c.loop-j.invariant c.requires.1 c.loop-j-test.true c.requires.3 in
    search rules

pub overflow_add-at : goal.overflow_add-at
overflow_add-at c =
    let r = putting_room c.loop-j.invariant c.requires.1 c.loop-j-test.true c.requires.3 in
    search rules

pub overflow_mul-o : goal.overflow_mul-o
overflow_mul-o c =
    let r = putting_room c.loop-j.invariant c.requires.1 c.loop-j-test.true c.requires.3 in
    search rules

pub overflow_add-o : goal.overflow_add-o
overflow_add-o c =
    let r = putting_room c.loop-j.invariant c.requires.1 c.loop-j-test.true c.requires.3 in
    search rules

pub overflow_add-o-in-loop-j : goal.overflow_add-o-in-loop-j
overflow_add-o-in-loop-j c =
    let r = putting_room c.loop-j.invariant c.requires.1 c.loop-j-test.true c.requires.3 in
    search rules

pub loop-j-preserved : goal.loop-j-preserved
loop-j-preserved c =
    putting_go c.loop-j.invariant c.requires.1 _ c.loop-j-test.true (sym c.plane_for.ensures ∙ c.in-Ok.is) c.put_face.ensures

pub shape_of-s : goal.shape_of-s
shape_of-s c = putting_long c.loop-j.invariant c.requires.1

pub returns : goal.returns
returns c = putting_end c.loop-j.invariant c.requires.1 c.loop-j-test.false
