use Rattle.std.proofs.lemmas.Result.{err_from_is_err_and}
use Rattle.std.specs.Prelude.{Err}
use Rattle.std.specs.Prelude.{Ok}
use mathlib.Core.Path.{refl, sym, ap, ◌∙◌}
use Rattle.indexed.proofs.Laws.{pointed_ok, pointed_refused}
use Rattle.indexed.proofs.index_point.Goals as goal

pub returns-in_err-i : goal.returns-in_err-i
returns-in_err-i c =
    let p = err_from_is_err_and c.from_residual.result c.from_residual.ensures.1 in
    pointed_refused _ _ _ _ _ _ _ _ _ _ (sym c.find.ensures ∙ c.in_err-i.was) (p.1 ∙ ap Err p.2) refl refl

pub returns : goal.returns
returns c =
    pointed_ok _ _ _ _ _ _ _ _ _ _ (sym c.find.ensures ∙ c.in_ok-i.was) (ap Ok c.join.ensures.0) c.join.ensures.1 refl
