use Rattle.std.specs.Prelude.{Err, ◌≡◌}
use Rattle.std.proofs.Common.{rules}
use Rattle.ring.specs.Laws.{face_refused, face_pushed}
use Rattle.ring.proofs.push_face.Goals as goal

pub returns-in_err-corners : goal.returns-in_err-corners
returns-in_err-corners c =
    let told : c.from_residual.result ≡ Err c.in_err-corners.field-0.0 = search rules in
    face_refused _ _ _ _ _ _ _ c.requires.1 c.add_point.ensures c.in_err-corners.was told

pub returns : goal.returns
returns c = face_pushed _ _ _ _ _ _ c.requires.1 c.add_point.ensures c.in_ok-corners.was
