use Rattle.std.proofs.lemmas.Result.{err_from_is_err_and}
use borrow.Author.Rules.{rules}
use mathlib.Core.Path.{◌≡◌, refl, sym, ◌∙◌}
use Rattle.outline.specs.Project.{points_of}
use Rattle.simple.specs.Simple.{pair_at, simple_from}
use Rattle.simple.specs.Laws.{each_go, each_stop, each_end, pair_at_lem}
use Rattle.simple.proofs.simple_from.Goals as goal

pub loop-j-init : goal.loop-j-init
unfolding simple_from
loop-j-init c = (search rules, search rules, refl)

pub returns-in_err-pair : goal.returns-in_err-pair
returns-in_err-pair c =
    let A = c.args in
    let paired : c.pair.result ≡ pair_at A.p (points_of A.o) A.o.n A.i c.loop-j.j = pair_at_lem A.p A.o.at A.o.n A.i c.loop-j.j _ _ _ _ c.requires.0 c.loop-j-test.true c.after-k.ensures.0 c.after-l.ensures.0 c.is_next.ensures c.pair.ensures in
    let p = err_from_is_err_and c.from_residual.result c.from_residual.ensures.1 in
    rw (p.1, p.2) (sym (each_stop (pair_at A.p (points_of A.o) A.o.n A.i) A.o.n c.loop-j.j _ c.loop-j-test.true (sym paired ∙ c.in_err-pair.was)) ∙ c.loop-j.invariant.2)

pub loop-j-preserved : goal.loop-j-preserved
loop-j-preserved c =
    let A = c.args in
    let paired : c.pair.result ≡ pair_at A.p (points_of A.o) A.o.n A.i c.loop-j.j = pair_at_lem A.p A.o.at A.o.n A.i c.loop-j.j _ _ _ _ c.requires.0 c.loop-j-test.true c.after-k.ensures.0 c.after-l.ensures.0 c.is_next.ensures c.pair.ensures in
    let e = each_go (pair_at A.p (points_of A.o) A.o.n A.i) A.o.n c.loop-j.j c.loop-j-test.true (sym paired ∙ c.in_ok-pair.was) in
    (search rules, search rules, sym e ∙ c.loop-j.invariant.2)

pub returns : goal.returns
returns c =
    let A = c.args in
    sym (each_end (pair_at A.p (points_of A.o) A.o.n A.i) A.o.n c.loop-j.j c.loop-j-test.false) ∙ c.loop-j.invariant.2
