use mathlib.Core.Path.{sym, ap, ◌∙◌}
use mathlib.Core.Bool.{not, ◌&&◌}
use borrow.Author.Tests.{not-true, not-false}
use Rattle.solid_check.proofs.Laws.{check_numbers, check_counts, check_sound, check_shape}
use Rattle.solid_check.proofs.check.Goals as goal

pub returns-then-not-all_fair : goal.returns-then-not-all_fair
returns-then-not-all_fair c =
    check_numbers _ _ _ _ _ _ _ c.requires.m_in_bounds.1 c.requires.m_in_bounds.2 _ c.refuse.ensures (sym c.all_fair.ensures ∙ not-true _ (ap not c.if-not-all_fair.true))

pub returns-then-given-is_counted : goal.returns-then-given-is_counted
returns-then-given-is_counted c =
    check_counts _ _ _ _ _ _ _ c.requires.m_in_bounds.1 c.requires.m_in_bounds.2 _ c.refuse-then-given-is_counted.ensures (sym c.all_fair.ensures ∙ not-false _ (ap not c.if-not-all_fair.false)) (ap (λ b. c.args.given && not b) (sym c.is_counted.ensures) ∙ c.if-given-is_counted.true)

pub is_sound-requires : goal.is_sound-requires
is_sound-requires c = record { n_in_bounds = (c.requires.m_in_bounds.1, c.requires.m_in_bounds.2); places_in_bounds = c.requires.places_in_bounds; n_in_bounds_2 = c.requires.n_in_bounds }

pub returns-then-not-is_sound : goal.returns-then-not-is_sound
returns-then-not-is_sound c =
    check_sound _ _ _ _ _ _ _ c.requires.m_in_bounds.1 c.requires.m_in_bounds.2 _ c.refuse-then-not-is_sound.ensures (sym c.all_fair.ensures ∙ not-false _ (ap not c.if-not-all_fair.false)) (ap (λ b. c.args.given && not b) (sym c.is_counted.ensures) ∙ c.if-given-is_counted.false) (sym c.is_sound.ensures ∙ not-true _ (ap not c.if-not-is_sound.true))

pub returns : goal.returns
returns c =
    c.shape.ensures ∙ check_shape _ _ _ _ _ _ _ c.requires.m_in_bounds.1 c.requires.m_in_bounds.2 (sym c.all_fair.ensures ∙ not-false _ (ap not c.if-not-all_fair.false)) (ap (λ b. c.args.given && not b) (sym c.is_counted.ensures) ∙ c.if-given-is_counted.false) (sym c.is_sound.ensures ∙ not-false _ (ap not c.if-not-is_sound.false))
