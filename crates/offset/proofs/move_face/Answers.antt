use Rattle.std.specs.Prelude.{Err}
use borrow.Author.Rules.{rules}
use mathlib.Core.Path.{◌≡◌, refl, sym, ap, ◌∙◌}
use native.Mathlib.Omega.{arith}
use Rattle.shift.specs.Shifts.{moved_plane}
use Rattle.offset.specs.Laws.{face_moved, face_refused}
use Rattle.offset.proofs.move_face.Goals as goal

pub returns-in_err-f : goal.returns-in_err-f
returns-in_err-f c =
    let told : c.from_residual.result ≡ Err c.in_err-f.field-0.0 = search rules in
    face_refused _ _ _ _ _ _ _ _ (ap (λ w. moved_plane c.args.t w c.args.d) (sym c.get_plane-w.ensures) ∙ sym c.moved_plane.ensures ∙ c.in_err-f.was) told refl

pub put_corners-requires : goal.put_corners-requires
put_corners-requires c =
    (c.requires.2, c.requires.1, omega (arith, c.requires.3, c.put_plane.auto.s))

pub returns : goal.returns
returns c =
    face_moved _ _ _ _ _ _ _ _ _ (ap (λ w. moved_plane c.args.t w c.args.d) (sym c.get_plane-w.ensures) ∙ sym c.moved_plane.ensures ∙ c.in_ok-f.was) refl c.put_plane.ensures c.put_corners.ensures
