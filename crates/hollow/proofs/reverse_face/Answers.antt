use Rattle.std.specs.Prelude.{Err}
use borrow.Author.Rules.{rules}
use mathlib.Core.Path.{◌≡◌, refl, sym, ap, ◌∙◌}
use native.Mathlib.Omega.{arith}
use Rattle.side.specs.Sides.{opposite_of}
use Rattle.hollow.specs.Laws.{face_reversed, face_stays}
use Rattle.hollow.proofs.reverse_face.Goals as goal

pub returns-in_err-f : goal.returns-in_err-f
returns-in_err-f c =
    let told : c.from_residual.result ≡ Err c.in_err-f.field-0.0 = search rules in
    face_stays _ _ _ _ _ _ _ (ap (opposite_of c.args.t) (sym c.get_plane-w.ensures) ∙ sym c.opposite.ensures ∙ c.in_err-f.was) told refl

pub reverse_points-requires : goal.reverse_points-requires
reverse_points-requires c =
    (c.requires.0, omega (arith, c.requires.1, c.put_plane.auto.s))

pub returns : goal.returns
returns c =
    face_reversed _ _ _ _ _ _ _ _ (ap (opposite_of c.args.t) (sym c.get_plane-w.ensures) ∙ sym c.opposite.ensures ∙ c.in_ok-f.was) refl c.put_plane.ensures c.reverse_points.ensures
