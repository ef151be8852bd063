use Rattle.std.proofs.lemmas.Result.{err_from_is_err_and}
use Rattle.std.specs.Prelude.{Ok}
use mathlib.Core.Path.{sym, ap, ◌∙◌}
use Rattle.indexed.proofs.Laws.{searched_start, searched_near, searched_refused, searched_apart, searched_pass, searched_end}
use Rattle.indexed.proofs.place_of.Goals as goal

pub loop-i-init : goal.loop-i-init
loop-i-init c = searched_pass searched_start _ c.reach_of-g.ensures c.pass-i.ensures

pub returns-in-Near : goal.returns-in-Near
returns-in-Near c =
    sym (searched_near c.loop-i.invariant c.loop-i-test.true c.get_point-p.ensures (sym c.near.ensures ∙ c.in_ok-near.was ∙ ap Ok c.in-Near.is))

pub returns-in_err-near : goal.returns-in_err-near
returns-in_err-near c =
    let p = err_from_is_err_and c.from_residual.result c.from_residual.ensures.1 in
    rw (p.1, p.2) (sym (searched_refused c.loop-i.invariant c.loop-i-test.true c.get_point-p.ensures (sym c.near.ensures ∙ c.in_err-near.was)))

pub loop-i-preserved : goal.loop-i-preserved
loop-i-preserved c =
    searched_pass (searched_apart c.loop-i.invariant c.loop-i-test.true c.get_point-p.ensures (sym c.near.ensures ∙ c.in_ok-near.was ∙ ap Ok c.in-Apart.is)) _ c.reach_of-g.ensures c.pass-i-in-loop-i.ensures

pub returns : goal.returns
returns c = sym (searched_end c.loop-i.invariant c.loop-i-test.false)
