use borrow.Author.Rules.{rules}
use mathlib.Core.Path.{◌≡◌, refl}
use Rattle.std.specs.Prelude.{Err}
use Rattle.jobs.specs.Laws.{both_stop, both_refused, both_go}
use Rattle.jobs.proofs.take_both.Goals as goal

pub take_solid-requires : goal.take_solid-requires
take_solid-requires c = (c.requires.stood.0, c.requires.in_bounds.0, c.requires.in_bounds.1)

pub returns-in_err-first : goal.returns-in_err-first
returns-in_err-first c =
    let told : c.from_residual.result ≡ Err c.in_err-first.field-0.0 = search rules in
    both_stop _ _ _ _ _ _ _ _ _ _ _ c.in_err-first.ensures refl told

pub take_solid-requires-2 : goal.take_solid-requires-2
take_solid-requires-2 c = (c.requires.stood.1, c.requires.in_bounds.2, c.requires.in_bounds.3)

pub returns-in_err-second : goal.returns-in_err-second
returns-in_err-second c =
    let told : c.from_residual-in_err-second.result ≡ Err c.in_err-second.field-0.0 = search rules in
    both_refused _ _ _ _ _ _ _ _ _ _ _ c.in_ok-first.ensures refl c.in_err-second.ensures refl told

pub returns : goal.returns
returns c = both_go _ _ _ _ _ _ _ _ _ _ c.in_ok-first.ensures refl c.in_ok-second.ensures refl
