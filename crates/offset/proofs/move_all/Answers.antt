use borrow.Author.Rules.{rules}
use mathlib.Core.Path.{◌≡◌, sym, ◌∙◌}
use Rattle.std.specs.Prelude.{Err}
use Rattle.offset.specs.Whole.{faces_lie, all_not_points, all_not_faces, all_moved}
use Rattle.offset.proofs.move_all.Goals as goal

pub returns-in_err-move_points : goal.returns-in_err-move_points
returns-in_err-move_points c =
    let told : c.from_residual.result ≡ Err c.in_err-move_points.field-0.0 = search rules in
    rw (told ∙ sym c.in_err-move_points.was) (all_not_points _ _ _ _ _ _ _ _ _ _ c.move_points.ensures _ _ _ c.in_err-move_points.was)

pub returns-in_err-move_faces : goal.returns-in_err-move_faces
returns-in_err-move_faces c =
    let told : c.from_residual-in_err-move_faces.result ≡ Err c.in_err-move_faces.field-0.0 = search rules in
    rw (told ∙ sym c.in_err-move_faces.was) (all_not_faces _ _ _ _ _ _ _ _ _ _ c.move_points.ensures c.in_ok-move_points.was c.requires.2 _ _ _ _ _ c.move_faces.ensures _ c.in_err-move_faces.was)

pub against-requires : goal.against-requires
against-requires c =
    let lie = faces_lie _ _ _ _ _ _ _ _ _ c.move_faces.ensures c.in_ok-move_faces.was c.requires.3.slots in
    (lie, lie)

pub returns : goal.returns
returns c =
    all_moved _ _ _ _ _ _ _ _ _ _ c.move_points.ensures c.in_ok-move_points.was c.requires.2 _ _ _ _ _ c.move_faces.ensures _ c.in_ok-move_faces.was c.requires.3.slots c.against.ensures
