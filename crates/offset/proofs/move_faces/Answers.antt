use Rattle.std.specs.Prelude.{Err}
use borrow.Author.Rules.{rules}
use mathlib.Core.Path.{◌≡◌, refl, ◌∙◌}
use Rattle.offset.specs.Laws.{listing_size, building_start, building_fits, building_step, building_stop, building_end, along_inside, along_few, face_not}
use Rattle.offset.proofs.move_faces.Goals as goal

pub loop-j-init : goal.loop-j-init
loop-j-init c =
    building_start c.requires.0 c.requires.2

pub move_face-requires : goal.move_face-requires
move_face-requires c =
    (along_inside c.requires.0 c.loop-j-test.true c.loop-j.invariant.along, along_few c.requires.0 c.loop-j-test.true c.loop-j.invariant.along, c.requires.1, building_fits c.loop-j.invariant c.requires.0 c.loop-j-test.true)

pub shape_of-dst-in_err-move_face : goal.shape_of-dst-in_err-move_face
shape_of-dst-in_err-move_face c =
    (face_not _ _ _ _ _ _ c.move_face.ensures c.in_err-move_face.was).1 ∙ listing_size c.loop-j.invariant.listing

pub returns-in_err-move_face : goal.returns-in_err-move_face
returns-in_err-move_face c =
    let told : c.from_residual.result ≡ Err c.in_err-move_face.field-0.0 = search rules in
    building_stop c.loop-j.invariant c.requires.0 c.loop-j-test.true _ _ _ _ c.move_face.ensures c.in_err-move_face.was told

pub loop-j-preserved : goal.loop-j-preserved
loop-j-preserved c =
    building_step c.loop-j.invariant c.requires.0 c.loop-j-test.true _ _ _ c.move_face.ensures c.in_ok-move_face.was refl

pub returns : goal.returns
returns c =
    building_end c.loop-j.invariant c.requires.0 _ c.loop-j-test.false refl
