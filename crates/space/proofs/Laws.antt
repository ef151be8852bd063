-- The two ways through `frame_up`.
use Rattle.std.specs.Prelude.{Err}
use mathlib.Core.Path.{◌≡◌, refl, sym, ap, ◌∙◌}
use mathlib.Core.Bool.{Bool, true, false}
use lib.Ieee.{Float}
use Rattle.refusal.specs.declared.Refusal.{Refusal}
use Rattle.refusal.specs.Outcome.{Outcome, refuse, unless, refusal_of}
use Rattle.space.specs.declared.Point3.{Point3}
use Rattle.space.specs.declared.Precision.{Precision}
use Rattle.space.specs.declared.Frame.{Frame}
use Rattle.space.specs.Vector.{over_v}
use Rattle.space.specs.Frames.{short, frame_along, frame_up}

pub up_short : (p : Precision) (o n h : Point3) (l : Float) (b : Bool) (r : Refusal) → b ≡ short p l → b ≡ true → r ≡ refusal_of 5 → Err r ≡ frame_up p o n h l
unfolding frame_up
up_short p o n h l b r e t q = ap Err q ∙ ap (λ x. unless x 5 (frame_along p o (over_v n l) h)) (sym (sym e ∙ t))

pub up_long : (p : Precision) (o n h : Point3) (l : Float) (b : Bool) (z : Point3) (r : Outcome Frame) → b ≡ short p l → b ≡ false → z ≡ over_v n l → r ≡ frame_along p o z h → r ≡ frame_up p o n h l
unfolding frame_up
up_long p o n h l b z r e t q w =
    w ∙ ap (λ y. frame_along p o y h) q ∙ ap (λ x. unless x 5 (frame_along p o (over_v n l) h)) (sym (sym e ∙ t))
