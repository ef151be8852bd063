-- A frame's normal has coordinates of at most 2 in size, whatever it is made from: a vector over its length, which is above linear, and that is 2 ^ -40 or more. Assumes nothing.
use Rattle.std.specs.Prelude.{◌≡◌, false, ℕ, ◌+◌, ◌≤◌, ◌<◌, Float, Ok}
use Rattle.std.proofs.Common.{sym, ap}
use Rattle.std.proofs.Math.Path.{subst}
use native.Mathlib.Omega.{arith}
use Rattle.std.specs.Float.Ieee.{binary64, sub, mul}
use Rattle.refusal.specs.Laws.{same_ok, then_ok, unless_ok}
use Rattle.space.specs.declared.Point3.{Point3}
use Rattle.space.specs.declared.Frame.{Frame}
use Rattle.space.specs.declared.Plane.{Plane}
use Rattle.space.specs.declared.Precision.{Precision}
use Rattle.space.specs.Vector.{sub_v, neg_v, over_v, cross_v, length_v}
use Rattle.space.specs.Frames.{short, frame_on, frame_by, hint_on, frame_along, frame_up, frame_of, on_frame, plane_of, remark, with_mark, face_plane}
use Rattle.side.specs.Sides.{opposite_of}
use Rattle.tube_domain.specs.Size.{Size, Size3}
use Rattle.tube_domain.proofs.Size.{sub_size, mul_size}
use Rattle.tube_domain.specs.Length.{length_held}
use Rattle.tube_domain.proofs.Length.{over_length}
use Rattle.tube_domain.specs.Normal.{Fair, long, neg3_size, size3_more, Framed}

module _ (t : Precision) (F : Fair t) where
  -- ---- a frame that is made has the origin that it is made at, and the normal over its length
  module _ (o n h : Point3) (f : Frame) where
    made : frame_of t o n h ≡ Ok f → (short t (length_v n) ≡ false) × (frame_on o (over_v n (length_v n)) (over_v (hint_on h (over_v n (length_v n))) (length_v (hint_on h (over_v n (length_v n))))) ≡ f)
    unfolding frame_of frame_up frame_along frame_by
    made e =
        let z = over_v n (length_v n) in
        let a = unless_ok (short t (length_v n)) 5 _ f e in
        let b = unless_ok (short t (length_v (hint_on h z))) 5 _ f a.1 in
        (a.0, same_ok b.1)

    pub frame_normal : Size3 500 n → frame_of t o n h ≡ Ok f → (f.origin ≡ o) × Size3 1 f.z
    unfolding frame_on
    frame_normal s e =
        let m = made e in
        let l = long t F (length_v n) (length_held n s) m.0 in
        (ap (λ g. g.origin) (sym m.1), subst (Size3 1) (ap (λ g. g.z) m.1) (over_length n s l.0 l.1))

-- ---- vectors
pub sub3_size : {k : ℕ} {a b : Point3} → k + 1 < 1024 → Size3 k a → Size3 k b → Size3 (k + 1) (sub_v a b)
unfolding sub_v
sub3_size K s t = record { x_size = sub_size K s.x_size t.x_size; y_size = sub_size K s.y_size t.y_size; z_size = sub_size K s.z_size t.z_size }

pub cross_size : {k : ℕ} {a b : Point3} → k + k + 1 < 1024 → Size3 k a → Size3 k b → Size3 (k + k + 1) (cross_v a b)
unfolding cross_v
cross_size {k} {a} {b} K s t = record { x_size = minor s.y_size t.z_size s.z_size t.y_size; y_size = minor s.z_size t.x_size s.x_size t.z_size; z_size = minor s.x_size t.y_size s.y_size t.x_size }
  where
    minor : {p q r u : Float} → Size k p → Size k q → Size k r → Size k u → Size (k + k + 1) (sub binary64 (mul binary64 p q) (mul binary64 r u))
    minor p q r u = sub_size K (mul_size (omega arith) p q) (mul_size (omega arith) r u)

module _ {t : Precision} (F : Fair t) {k : ℕ} where
  pub plane_framed : (o n h : Point3) (w : Plane) → Size3 k o → Size3 500 n → plane_of t o n h ≡ Ok w → Framed k w
  unfolding plane_of
  plane_framed o n h w s m e =
      let q = then_ok (frame_of t o n h) on_frame w e in
      let g = frame_normal t F o n h q.0 m q.1 in
      subst (Framed k) (same_ok q.2) (record { from = subst (Size3 k) (sym g.0) s; normal = g.1 })

  -- of three points, with a normal of at most 2 ^ (2k + 3) before it is divided
  pub face_framed : (a b c : Point3) (w : Plane) → k ≤ 248 → Size3 k a → Size3 k b → Size3 k c → face_plane t a b c ≡ Ok w → Framed k w
  unfolding face_plane
  face_framed a b c w K p q r e =
      plane_framed a (cross_v (sub_v b a) (sub_v c a)) (sub_v b a) w p (size3_more (omega arith) (cross_size {k = k + 1} (omega arith) (sub3_size (omega arith) q p) (sub3_size (omega arith) r p))) e

  -- and the plane turned round
  pub opposite_framed : (w v : Plane) → Framed k w → opposite_of t w ≡ Ok v → Framed k v
  unfolding opposite_of remark
  opposite_framed w v f e =
      let q = then_ok (plane_of t w.frame.origin (neg_v w.frame.z) w.frame.x) (with_mark w.mark) v e in
      let g = plane_framed w.frame.origin (neg_v w.frame.z) w.frame.x q.0 f.from (size3_more (omega arith) (neg3_size f.normal)) q.1 in
      subst (Framed k) (same_ok q.2) (record { from = g.from; normal = g.normal })
