use Rattle.std.proofs.lemmas.Result.{err_from_is_err_and}
use borrow.Author.Rules.{rules}
use mathlib.Core.Path.{◌≡◌, sym, ◌∙◌}
use native.Mathlib.Omega.{arith}
use lib.ListN.{length}
use Rattle.outline.specs.Project.{points_of}
use Rattle.simple.specs.Simple.{simple_from}
use Rattle.simple.specs.Laws.{each_go, each_stop, each_end, simple_start}
use Rattle.simple.proofs.simple.Goals as goal

pub loop-i-init : goal.loop-i-init
loop-i-init c =
    let k : length c.args.o.at ≡ 128 = c.well_formed.1.0.1.1.0.1.0.1 in
    (search rules, simple_start c.args.p c.args.o.at c.args.o.n (omega (arith, c.requires)))

pub returns-in_err-simple_from : goal.returns-in_err-simple_from
returns-in_err-simple_from c =
    let A = c.args in
    let p = err_from_is_err_and c.from_residual.result c.from_residual.ensures.1 in
    rw (p.1, p.2) (sym (each_stop (simple_from A.p (points_of A.o) A.o.n) A.o.n c.loop-i.i _ c.loop-i-test.true (sym c.simple_from.ensures ∙ c.in_err-simple_from.was)) ∙ c.loop-i.invariant.1)

pub loop-i-preserved : goal.loop-i-preserved
loop-i-preserved c =
    let A = c.args in
    let e = each_go (simple_from A.p (points_of A.o) A.o.n) A.o.n c.loop-i.i c.loop-i-test.true (sym c.simple_from.ensures ∙ c.in_ok-simple_from.was) in
    (search rules, sym e ∙ c.loop-i.invariant.1)

pub returns : goal.returns
returns c =
    let A = c.args in
    sym (each_end (simple_from A.p (points_of A.o) A.o.n) A.o.n c.loop-i.i c.loop-i-test.false) ∙ c.loop-i.invariant.1
