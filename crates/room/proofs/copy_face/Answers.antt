use mathlib.Core.Path.{refl, ap, ◌∙◌}
use Prim.Native.Nat.{◌+◌}
use lib.Seq.{sets}
use Rattle.polygon.specs.Memory.{floats_of, points_at}
use Rattle.room.specs.Rooms.{plane_floats, plane_at}
use Rattle.room.specs.Laws.{sets_append}
use Rattle.room.proofs.copy_face.Goals as goal

pub returns : goal.returns
returns c = let A = c.args in
    let points = floats_of (points_at A.src.now (A.from + 13) A.m) in
    record {
      s_after = c.copy_points.ensures ∙ ap (λ l. sets l (A.at + 13) points) (c.put_plane.ensures ∙ ap (λ w. sets A.s.now A.at (plane_floats w)) c.get_plane-w.ensures)
          ∙ sets_append A.s.now A.at (plane_floats (plane_at A.src.now A.from)) points;
      counts_after = refl;
    }
