use borrow.Author.Rules.{rules}
use mathlib.Core.Path.{◌≡◌, sym, ◌∙◌}
use Rattle.std.specs.Prelude.{Err}
use Rattle.solids.specs.Laws.{pairs_go, pairs_stop, pairs_end}
use Rattle.solids.proofs.all_apart.Goals as goal

pub returns-in_err-apart_from : goal.returns-in_err-apart_from
returns-in_err-apart_from c =
    let told : c.from_residual.result ≡ Err c.in_err-apart_from.field-0.0 = search rules in
    told ∙ sym (pairs_stop _ _ _ _ _ c.loop-i-test.true (sym c.apart_from.ensures ∙ c.in_err-apart_from.was)) ∙ c.loop-i.invariant

pub loop-i-preserved : goal.loop-i-preserved
loop-i-preserved c = sym (pairs_go _ _ _ _ c.loop-i-test.true (sym c.apart_from.ensures ∙ c.in_ok-apart_from.was)) ∙ c.loop-i.invariant

pub returns : goal.returns
returns c = sym (pairs_end _ _ _ _ c.loop-i-test.false) ∙ c.loop-i.invariant
