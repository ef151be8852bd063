use Rattle.std.specs.Prelude.{Err}
use mathlib.Core.Path.{sym, ap, ◌∙◌}
use Rattle.solids.specs.Faces.{few_corners, three_corners}
use Rattle.solids.proofs.plane_for.Goals as goal

pub returns-then-n-lt3 : goal.returns-then-n-lt3
returns-then-n-lt3 c = ap Err c.refuse.ensures ∙ sym (few_corners _ _ _ _ _ c.requires.1 c.if-n-lt3.true)

pub returns : goal.returns
returns c =
    c.face_plane.ensures ∙ sym (three_corners _ _ _ _ _ _ _ _ c.requires.1 c.if-n-lt3.false c.point_of-a.ensures c.point_of-b.ensures c.point_of-c.ensures)
