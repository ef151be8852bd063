use mathlib.Core.Path.{ap, ◌∙◌}
use mathlib.Core.List.{map}
use Prim.Native.Nat.{◌+◌}
use lib.Seq.{sets}
use Rattle.polygon.specs.Memory.{floats_of, points_at}
use Rattle.room.specs.Rooms.{plane_floats, counts_at}
use Rattle.room.specs.Laws.{sets_append}
use Rattle.solids.specs.Frames.{point_of}
use Rattle.solid_check.proofs.put_face.Goals as goal

pub returns : goal.returns
returns c =
    let A = c.args in
    c.put_corners.ensures ∙ ap (λ s. sets s (A.o + 13) (floats_of (map (point_of (points_at A.points.now 0 A.m)) (counts_at A.places.now A.at A.n)))) c.put_plane.ensures
    ∙ sets_append A.s.now A.o (plane_floats A.w) (floats_of (map (point_of (points_at A.points.now 0 A.m)) (counts_at A.places.now A.at A.n)))
