-- Frames and planes: 5. Definitions only.
use Rattle.std.specs.Prelude.{Bool, true, false, not, ◌&&◌, Float, Ok}
use Rattle.std.specs.Float.Ieee.{lt, of_bits}
use Rattle.std.specs.Float.{binary64}
use Rattle.float.specs.Float.{finite}
use Rattle.refusal.specs.Outcome.{Outcome, refuse, then, unless}
use Rattle.space.specs.declared.Point3.{Point3}
use Rattle.space.specs.declared.Precision.{Precision}
use Rattle.space.specs.declared.Frame.{Frame}
use Rattle.space.specs.declared.Plane.{Plane}
use Rattle.space.specs.Vector.{sub_v, scale_v, over_v, dot_v, cross_v, length_v}

-- what the two answers say
-- "A length that is not above linear, or not finite, refuses"
unfoldable pub short : Precision → Float → Bool
short p l = not (lt p.linear l && finite l)

-- the frame of an origin, its z and its x: y = z cross x
unfoldable pub frame_on : Point3 → Point3 → Point3 → Frame
frame_on o z x = record { origin = o; x = x; y = cross_v z x; z = z }

-- "x = hint - z·(hint dot z), over its length"
unfoldable pub frame_by : Precision → Point3 → Point3 → Point3 → Float → Outcome Frame
frame_by p o z r l = unless (short p l) 5 (Ok (frame_on o z (over_v r l)))

unfoldable pub hint_on : Point3 → Point3 → Point3
hint_on h z = sub_v h (scale_v z (dot_v h z))

unfoldable pub frame_along : Precision → Point3 → Point3 → Point3 → Outcome Frame
frame_along p o z h = frame_by p o z (hint_on h z) (length_v (hint_on h z))

-- "z = normal / length"
unfoldable pub frame_up : Precision → Point3 → Point3 → Point3 → Float → Outcome Frame
frame_up p o n h l = unless (short p l) 5 (frame_along p o (over_v n l) h)

-- "Frame from origin, normal, hint"
unfoldable pub frame_of : Precision → Point3 → Point3 → Point3 → Outcome Frame
frame_of p o n h = frame_up p o n h (length_v n)

abbrev pub on_frame : Frame → Outcome Plane
on_frame f = Ok (record { frame = f; mark = of_bits binary64 0 })

unfoldable pub plane_of : Precision → Point3 → Point3 → Point3 → Outcome Plane
plane_of p o n h = then (frame_of p o n h) on_frame

-- the same plane with another mark
unfoldable pub remark : Float → Plane → Plane
remark m w = record { frame = w.frame; mark = m }

abbrev pub with_mark : Float → Plane → Outcome Plane
with_mark m w = Ok (remark m w)

-- "A face's frame: origin a, normal (b-a) cross (c-a), hint b-a, of its first three corners"
unfoldable pub face_plane : Precision → Point3 → Point3 → Point3 → Outcome Plane
face_plane p a b c = plane_of p a (cross_v (sub_v b a) (sub_v c a)) (sub_v b a)

-- "Local coordinates are dots of q - origin with x, y, z"
unfoldable pub local_of : Frame → Point3 → Point3
local_of f q =
    let d = sub_v q f.origin in
    record { x = dot_v d f.x; y = dot_v d f.y; z = dot_v d f.z }
