use Rattle.std.proofs.lemmas.Result.{err_from_is_err_and}
use Rattle.std.specs.Prelude.{Err}
use borrow.Author.Rules.{rules}
use mathlib.Core.Path.{refl, ap, ◌∙◌}
use Rattle.indexed.proofs.Laws.{walking_start, walking_asks, walking_step, walking_stop, walking_end}
use Rattle.indexed.proofs.index_faces.Goals as goal

pub loop-j-init : goal.loop-j-init
loop-j-init c = walking_start _ _ _ _ _ _ _ _ c.requires

pub overflow_add-o : goal.overflow_add-o
overflow_add-o c =
    let a = walking_asks c.loop-j.invariant c.requires c.loop-j-test.true in
    search rules

pub index_face-requires : goal.index_face-requires
index_face-requires c =
    let a = walking_asks c.loop-j.invariant c.requires c.loop-j-test.true in
    search rules

pub returns-in_err-m : goal.returns-in_err-m
returns-in_err-m c =
    let p = err_from_is_err_and c.from_residual.result c.from_residual.ensures.1 in
    walking_stop c.loop-j.invariant c.requires _ _ _ _ _ c.loop-j-test.true c.in_err-m.was (p.1 ∙ ap Err p.2) c.index_face.ensures

pub overflow_add-k : goal.overflow_add-k
overflow_add-k c =
    let a = walking_asks c.loop-j.invariant c.requires c.loop-j-test.true in
    let f = c.ranges in
    search rules

pub overflow_mul-o : goal.overflow_mul-o
overflow_mul-o c =
    let a = walking_asks c.loop-j.invariant c.requires c.loop-j-test.true in
    let f = c.ranges in
    search rules

pub overflow_add-o-in-loop-j : goal.overflow_add-o-in-loop-j
overflow_add-o-in-loop-j c =
    let a = walking_asks c.loop-j.invariant c.requires c.loop-j-test.true in
    let f = c.ranges in
    search rules

pub overflow_add-o-in-loop-j-2 : goal.overflow_add-o-in-loop-j-2
overflow_add-o-in-loop-j-2 c =
    let a = walking_asks c.loop-j.invariant c.requires c.loop-j-test.true in
    let f = c.ranges in
    search rules

pub loop-j-preserved : goal.loop-j-preserved
loop-j-preserved c =
    walking_step c.loop-j.invariant c.requires _ _ _ _ c.loop-j-test.true c.in_ok-m.was c.index_face.ensures

pub returns : goal.returns
returns c =
    walking_end c.loop-j.invariant c.requires _ c.loop-j-test.false refl
