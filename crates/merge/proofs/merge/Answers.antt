use Rattle.std.specs.Prelude.{Err}
use Rattle.std.proofs.lemmas.Result.{err_from_is_err_and}
use mathlib.Core.Path.{ap, ◌∙◌}
use Rattle.merge.specs.Laws.{merge_stop, merge_go}
use Rattle.merge.proofs.merge.Goals as goal

pub returns-in_err-m : goal.returns-in_err-m
returns-in_err-m c =
    let p = err_from_is_err_and c.from_residual.result c.from_residual.ensures.1 in
    merge_stop _ _ _ _ _ _ _ _ _ c.index_faces.ensures c.in_err-m.was (p.1 ∙ ap Err p.2)

pub returns : goal.returns
returns c =
    merge_go _ _ _ _ _ _ _ _ _ c.index_faces.ensures c.in_ok-m.was c.capped.ensures
