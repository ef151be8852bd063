use Rattle.std.proofs.lemmas.Result.{err_from_is_err_and}
use Rattle.std.specs.Prelude.{Err}
use borrow.Author.Rules.{rules}
use mathlib.Core.Path.{refl, ap, ◌∙◌}
use native.Mathlib.Omega.{arith}
use Rattle.arrange.specs.Laws.{arranging_start, arranging_among, arranging_room, arranging_step, arranging_stop, arranging_end}
use Rattle.arrange.proofs.conform_all.Goals as goal

pub loop-j-init : goal.loop-j-init
loop-j-init c = arranging_start _ _ _ _ _ _ _ _ _ _ _ _ c.requires

pub conform-made-requires : goal.conform-made-requires
conform-made-requires c =
    let I = c.loop-j.invariant in
    let G = c.requires in
    (G.points, arranging_room I G, arranging_among I G c.loop-j-test.true, G.few, omega (arith, I.low, G.room))

pub returns-in_err-m : goal.returns-in_err-m
returns-in_err-m c =
    let p' = err_from_is_err_and c.from_residual.result c.from_residual.ensures.1 in
    arranging_stop c.loop-j.invariant c.requires _ _ _ _ _ _ c.loop-j-test.true c.conform-made.ensures c.fitted.ensures _ _ c.in_err-m.was (p'.1 ∙ ap Err p'.2)

pub overflow_add-first : goal.overflow_add-first
overflow_add-first c =
    let z = arranging_among c.loop-j.invariant c.requires c.loop-j-test.true in
    let w = z.fits in
    let f = c.ranges in
    search rules

pub loop-j-preserved : goal.loop-j-preserved
loop-j-preserved c =
    arranging_step c.loop-j.invariant c.requires _ _ _ _ _ _ c.loop-j-test.true c.conform-made.ensures c.fitted.ensures _ c.in_ok-m.was

pub returns : goal.returns
returns c =
    arranging_end c.loop-j.invariant c.requires _ c.loop-j-test.false refl
