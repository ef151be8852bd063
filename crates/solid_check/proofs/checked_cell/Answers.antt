use borrow.Author.Rules.{rules}
use mathlib.Core.Path.{◌≡◌, sym, ◌∙◌}
use Rattle.std.specs.Prelude.{Err}
use Rattle.solid_check.proofs.Laws.{stored_fine, stored_refused}
use Rattle.solid_check.proofs.checked_cell.Goals as goal

pub check-requires : goal.check-requires
check-requires c = record { m_in_bounds = c.requires.m_in_bounds; places_in_bounds = c.requires.places_in_bounds; n_in_bounds = c.requires.n_in_bounds }

pub returns-in_err-check : goal.returns-in_err-check
returns-in_err-check c =
    let told : c.from_residual.result ≡ Err c.in_err-check.field-0.0 = search rules in
    let e = sym c.check.ensures ∙ c.in_err-check.was in
    record { value = told ∙ sym e; s_after = stored_refused _ _ _ _ _ e }

pub put_faces-requires : goal.put_faces-requires
put_faces-requires c =
    (c.requires.m_in_bounds.0, c.requires.m_in_bounds.1, c.requires.m_in_bounds.2, c.requires.places_in_bounds_2)

pub returns : goal.returns
returns c =
    let e = sym c.check.ensures ∙ c.in_ok-check.was in
    record { value = sym e; s_after = c.put_faces.ensures ∙ stored_fine _ _ _ _ e }
