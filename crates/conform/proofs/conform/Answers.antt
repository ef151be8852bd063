use Rattle.std.proofs.lemmas.Result.{err_from_is_err_and}
use Rattle.std.specs.Prelude.{Err}
use borrow.Author.Rules.{rules}
use mathlib.Core.Path.{refl, ap, ◌∙◌}
use Rattle.conform.specs.Laws.{conforming_start, conforming_step, conforming_count, conforming_stop, conforming_end}
use Rattle.conform.proofs.conform.Goals as goal

pub loop-i-init : goal.loop-i-init
loop-i-init c = conforming_start _ _ _ _ _ _ _ _ _ _ _

pub returns-in_err-m : goal.returns-in_err-m
returns-in_err-m c =
    let p = c.requires in
    let p' = err_from_is_err_and c.from_residual.result c.from_residual.ensures.1 in
    conforming_stop c.loop-i.invariant p.2 p.3 _ _ _ _ _ _ _ c.loop-i-test.true c.in_err-m.was (p'.1 ∙ ap Err p'.2) c.conform_edge.ensures

pub overflow_add-q : goal.overflow_add-q
overflow_add-q c =
    let p = c.requires in
    let z = conforming_count c.loop-i.invariant p.2 p.3 _ _ _ _ _ _ c.loop-i-test.true c.in_ok-m.was c.conform_edge.ensures in
    search rules

pub loop-i-preserved : goal.loop-i-preserved
loop-i-preserved c =
    let p = c.requires in
    conforming_step c.loop-i.invariant p.2 p.3 _ _ _ _ _ _ c.loop-i-test.true c.in_ok-m.was c.conform_edge.ensures

pub returns : goal.returns
returns c =
    let p = c.requires in
    conforming_end c.loop-i.invariant p.2 p.3 _ c.loop-i-test.false refl
