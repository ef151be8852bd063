-- The two ways through each function that looks whether a slice is long enough.
use Rattle.refusal.specs.Outcome.{Outcome}
use Rattle.std.specs.Prelude.{Ok, Err}
use mathlib.Core.Path.{◌≡◌, sym, ap, ◌∙◌}
use mathlib.Core.Bool.{cond}
use mathlib.Core.List.{List}
use Prim.Native.Nat.{◌≤◌, ◌<◌}
use lib.ListN.{length, set}
use lib.Seq.{sets}
use lib.Ieee.{Float, binary64, of_bits}
use borrow.Author.Tests.{lt-leb, le-leb, lt-ltb, le-ltb}
use Rattle.refusal.specs.declared.Refusal.{Refusal}
use Rattle.interval.specs.declared.Interval.{Interval}
use Rattle.space.specs.declared.Point3.{Point3}
use Rattle.space.specs.declared.Frame.{Frame}
use Rattle.space.specs.declared.Plane.{Plane}
use Rattle.space.specs.Vector.{origin}
use Rattle.polygon.specs.Memory.{floats, point_at}
use Rattle.room.specs.Rooms.{frame_floats, frame_at}
use Rattle.lent.specs.Lent.{stored, point_by, plane_by, flat, point_stored, plane_stored, plane_in}

pub fits : (s : List Float) (i : Interval) → 2 ≤ length s → set (set s 0 i.lo) 1 i.hi ≡ stored s i
unfolding stored
fits s i h = sym (ap (λ b. cond b (set (set s 0 i.lo) 1 i.hi) s) (le-leb _ _ h))

pub short : (s : List Float) (i : Interval) → length s < 2 → s ≡ stored s i
unfolding stored
short s i h = sym (ap (λ b. cond b (set (set s 0 i.lo) 1 i.hi) s) (lt-leb _ _ h))

pub point_fits : (s s' : List Float) (p : Point3) → 3 ≤ length s → s' ≡ sets s 0 (floats p) → s' ≡ point_stored s p
unfolding point_stored
point_fits s s' p h e = e ∙ sym (ap (λ b. cond b (sets s 0 (floats p)) s) (le-leb _ _ h))

pub point_short : (s : List Float) (p : Point3) → length s < 3 → s ≡ point_stored s p
unfolding point_stored
point_short s p h = sym (ap (λ b. cond b (sets s 0 (floats p)) s) (lt-leb _ _ h))

pub plane_fits : (s s' : List Float) (w : Plane) → 12 ≤ length s → s' ≡ sets s 0 (frame_floats w.frame) → s' ≡ plane_stored s w
unfolding plane_stored
plane_fits s s' w h e = e ∙ sym (ap (λ b. cond b (sets s 0 (frame_floats w.frame)) s) (le-leb _ _ h))

pub plane_short : (s : List Float) (w : Plane) → length s < 12 → s ≡ plane_stored s w
unfolding plane_stored
plane_short s w h = sym (ap (λ b. cond b (sets s 0 (frame_floats w.frame)) s) (lt-leb _ _ h))

pub point_read : (s : List Float) (p : Point3) → 3 ≤ length s → p ≡ point_at s 0 → p ≡ point_by s
unfolding point_by
point_read s p h e = e ∙ sym (ap (λ b. cond b origin (point_at s 0)) (le-ltb _ _ h))

pub point_none : (s : List Float) → length s < 3 → origin ≡ point_by s
unfolding point_by
point_none s h = sym (ap (λ b. cond b origin (point_at s 0)) (lt-ltb _ _ h))

abbrev unmarked : Frame → Plane
unmarked f = record { frame = f; mark = of_bits binary64 0 }

pub plane_read : (s : List Float) (f : Frame) → 12 ≤ length s → f ≡ frame_at s 0 → record { frame = f; mark = of_bits binary64 0 } ≡ plane_by s
unfolding plane_by
plane_read s f h e = ap unmarked e ∙ sym (ap (λ b. cond b flat (unmarked (frame_at s 0))) (le-ltb _ _ h))

pub plane_none : (s : List Float) (w : Plane) → length s < 12 → w ≡ flat → w ≡ plane_by s
unfolding plane_by
plane_none s w h e = e ∙ sym (ap (λ b. cond b flat (unmarked (frame_at s 0))) (lt-ltb _ _ h))

-- what `plane_in` answers
pub made_in : (p : Outcome Plane) (w : Plane) → p ≡ Ok w → w ≡ plane_in (p)
unfolding plane_in
made_in p w e = sym (ap (λ x. plane_in (x)) e)

pub none_in : (p : Outcome Plane) (r : Refusal) (w : Plane) → p ≡ Err r → w ≡ flat → w ≡ plane_in (p)
unfolding plane_in
none_in p r w e f = f ∙ sym (ap (λ x. plane_in (x)) e)
