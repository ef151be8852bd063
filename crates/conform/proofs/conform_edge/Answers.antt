use Rattle.std.proofs.lemmas.Result.{err_from_is_err_and}
use Rattle.std.specs.Prelude.{Err}
use mathlib.Core.Path.{ap, ◌∙◌}
use borrow.Author.Rules.{rules}
use native.Mathlib.Omega.{arith}
use Rattle.conform.specs.Laws.{spliced_not, spliced_made, edged_fits}
use Rattle.conform.proofs.conform_edge.Goals as goal

pub returns-in_err-m : goal.returns-in_err-m
returns-in_err-m c =
    let p' = err_from_is_err_and c.from_residual.result c.from_residual.ensures.1 in
    spliced_not _ _ _ _ _ _ _ _ _ _ _ _ _ _ c.inside_edge.ensures c.in_err-m.was (p'.1 ∙ ap Err p'.2)

pub append-requires : goal.append-requires
append-requires c =
    let p = c.requires in
    let z = edged_fits _ _ _ _ _ _ _ _ _ _ p.1.places c.inside_edge.ensures c.in_ok-m.was in
    (z.0, omega (arith, z.1, p.4, p.5))

pub overflow_add-result : goal.overflow_add-result
overflow_add-result c =
    let p = c.requires in
    let z = edged_fits _ _ _ _ _ _ _ _ _ _ p.1.places c.inside_edge.ensures c.in_ok-m.was in
    let w = z.1 in
    let v = c.requires.4 in
    search rules

pub returns : goal.returns
returns c =
    spliced_made _ _ _ _ _ _ _ _ _ _ _ _ _ _ _ c.inside_edge.ensures c.in_ok-m.was c.store.ensures c.append.ensures
