use Rattle.std.specs.Prelude.{Err}
use mathlib.Core.Path.{◌≡◌, sym, ◌∙◌}
use borrow.Author.Rules.{rules}
use native.Mathlib.Omega.{arith}
use Rattle.room.specs.Laws.{within_le}
use Rattle.hollow.specs.Laws.{place_at, moved_at, not_inside, not_reversed, all_walled}
use Rattle.hollow.proofs.hollow_in.Goals as goal

pub against-requires : goal.against-requires
against-requires c =
    (c.requires.outer, c.requires.moved)

pub returns-in_err-against : goal.returns-in_err-against
returns-in_err-against c =
    let told : c.from_residual.result ≡ Err c.in_err-against.field-0.0 = search rules in
    rw (told ∙ sym c.in_err-against.was) (not_inside _ _ _ _ _ _ _ _ _ _ c.against.ensures _ c.in_err-against.was)

pub corners_of-outer-requires : goal.corners_of-outer-requires
corners_of-outer-requires c =
    c.requires.outer

pub corners_of-inner-requires : goal.corners_of-inner-requires
corners_of-inner-requires c =
    c.requires.built

pub overflow_mul-at : goal.overflow_mul-at
overflow_mul-at c =
    omega (arith, within_le _ _ _ c.requires.place.floats, c.corners_of-outer.ensures.0, c.well_formed)

pub overflow_add-at : goal.overflow_add-at
overflow_add-at c =
    omega (arith, within_le _ _ _ c.requires.place.floats, c.corners_of-outer.ensures.0, c.well_formed)

pub overflow_mul-at-2 : goal.overflow_mul-at-2
overflow_mul-at-2 c =
    omega (arith, within_le _ _ _ c.requires.place.floats, c.corners_of-outer.ensures.0, c.well_formed)

pub overflow_add-at-2 : goal.overflow_add-at-2
overflow_add-at-2 c =
    omega (arith, within_le _ _ _ c.requires.place.floats, c.corners_of-outer.ensures.0, c.well_formed)

pub overflow_add-k : goal.overflow_add-k
overflow_add-k c =
    omega (arith, c.requires.place.slots, c.well_formed)

pub reverse_faces-requires : goal.reverse_faces-requires
reverse_faces-requires c =
    (c.requires.built, place_at _ _ _ _ _ _ _ _ _ _ c.corners_of-outer.ensures.0 c.requires.place)

pub returns-in_err-reverse_faces : goal.returns-in_err-reverse_faces
returns-in_err-reverse_faces c =
    let told : c.from_residual-in_err-reverse_faces.result ≡ Err c.in_err-reverse_faces.field-0.0 = search rules in
    rw (told ∙ sym c.in_err-reverse_faces.was) (not_reversed _ _ _ _ _ _ _ _ _ _ c.against.ensures _ _ _ _ c.in_ok-against.was (moved_at _ _ _ _ _ _ _ _ _ _ _ _ c.corners_of-outer.ensures.0 c.reverse_faces.ensures) _ c.in_err-reverse_faces.was)

pub overflow_add-outer : goal.overflow_add-outer
overflow_add-outer c =
    omega (arith, c.corners_of-outer.ensures.1, c.corners_of-inner.ensures.1, c.well_formed)

pub returns : goal.returns
returns c =
    all_walled _ _ _ _ _ _ _ _ _ _ c.against.ensures _ _ _ _ c.in_ok-against.was (moved_at _ _ _ _ _ _ _ _ _ _ _ _ c.corners_of-outer.ensures.0 c.reverse_faces.ensures) _ _ _ c.in_ok-reverse_faces.was c.corners_of-outer.ensures.0 c.corners_of-inner.ensures.0 c.room_for.ensures
