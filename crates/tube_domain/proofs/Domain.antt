-- Document 01's domain: points of coordinates of at most 2 ^ 20 in size, and planes at such a point with a frame's normal. Every end on the way to a distance is finite there, so what the tube
-- says of a side asks nothing more; and so is every end on the way to whether two points are near. Assumes nothing.
use Rattle.std.specs.Prelude.{◌≡◌, Bool, true, false, ◌&&◌, ℕ, ◌+◌, ◌≤◌, ◌<◌, ℤ, Float}
use native.Mathlib.Omega.{arith}
use Rattle.std.proofs.Math.Dec.{T}
use Rattle.std.specs.Float.{nan, inf, fin}
use Rattle.std.specs.Float.Ieee.{binary64, lt, le, eq, neg, of_bits}
use Rattle.std.specs.Float.Ieee.Bits.{of_bits-fits}
use Rattle.std.specs.Float.Ieee.Fits.{neg-fits}
use Rattle.refusal.specs.Tests.{and_true}
use Rattle.float.specs.Exact.{plus}
use Rattle.float.proofs.Facts.{yes}
use Rattle.float.proofs.Laws.{Held}
use Rattle.float.proofs.Places.{le_at, le_numbers, place_units}
use Rattle.interval.specs.Ends.{point_i, sub_i, mul_i}
use Rattle.interval.specs.Box.{dot_i, difference_i}
use Rattle.interval.specs.Exact.{Bounded}
use Rattle.space.specs.declared.Point3.{Point3}
use Rattle.space.specs.declared.Plane.{Plane}
use Rattle.space.specs.declared.Precision.{Precision}
use Rattle.space.specs.Vector.{box_of, most, fair, fair_point}
use Rattle.space.specs.Near.{gap_i}
use Rattle.side.specs.Sides.{distance_of}
use Rattle.tube.specs.Tube.{Held3}
use Rattle.tube_domain.specs.Size.{power, Size, Size3, Ends, ends_more, ends_bounded, point_most}
use Rattle.tube_domain.proofs.Size.{add_most, sub_most, mul_most, sqr_most}
use Rattle.tube_domain.specs.Normal.{Fair, Framed}
use Rattle.tube_domain.specs.Domain.{most_plus, most_minus, squared_i, excess_i, local_size}

-- ---- a coordinate that passes, "finite and at most 2^20 in size"
positive_held : (s : Bool) (m : ℕ) (e : ℤ) → Held (fin s m e) → Held (fin false m e)
unfolding neg
positive_held true m e f = neg-fits binary64 (fin true m e) f
positive_held false m e f = f

units_most : (m : ℕ) (e : ℤ) → Held (fin false m e) → T (le (fin false m e) most) → plus (fin false m e) ≤ power 20
units_most m e f h =
    let n = le_numbers (fin false m e) most f (of_bits-fits binary64 0x4130_0000_0000_0000) h in
    let u = place_units (fin false m e) most f n.1.held tt (unfold of_bits in tt) (le_at n.0 n.1 h) in
    omega (arith, u, most_plus, most_minus)

pub fair_size : (x : Float) → Held x → fair x ≡ true → Size 20 x
unfolding fair le lt eq of_bits
fair_size nan f e = absurd (yes e)
fair_size (inf s) f e = absurd (yes e)
fair_size (fin s m d) f e = let g = positive_held s m d f in by s f (units_most m d g (yes e))
  where
    by : (s : Bool) → Held (fin s m d) → plus (fin false m d) ≤ power 20 → Size 20 (fin s m d)
    by true f h = record { within = record { held = f; bounded = tt; most = omega arith; least = omega arith } }
    by false f h = record { within = record { held = f; bounded = tt; most = omega arith; least = omega arith } }

pub fair_point_lem : (p : Point3) → Held3 p → fair_point p ≡ true → Size3 20 p
unfolding fair_point
fair_point_lem p h e =
    let a = and_true (fair p.x) (fair p.y && fair p.z) e in
    let b = and_true (fair p.y) (fair p.z) a.1 in
    record { x_size = fair_size p.x h.x_held a.0; y_size = fair_size p.y h.y_held b.0; z_size = fair_size p.z h.z_held b.1 }

-- ---- the distance: a step for each operation, and at most 2 ^ (i + j + 7)
pub distance_most : {i j : ℕ} (w : Plane) (p : Point3) → i + j + 7 < 1024 → Size3 i p → Size3 i w.frame.origin → Size3 j w.frame.z → Ends (i + j + 7) (distance_of w p)
unfolding distance_of dot_i difference_i box_of
distance_most {i} {j} w p K s o n =
    ends_more (omega arith)
    (add_most {k = i + 2 + j + 1 + 2} (omega arith) (add_most (omega arith) (axis s.x_size o.x_size n.x_size) (axis s.y_size o.y_size n.y_size))
    (ends_more (omega arith) (axis s.z_size o.z_size n.z_size)))
  where
    axis : {x u z : Float} → Size i x → Size i u → Size j z → Ends (i + 2 + j + 1) (mul_i (sub_i (point_i x) (point_i u)) (point_i z))
    axis a b c = mul_most (omega arith) (sub_most (omega arith) (point_most a) (point_most b)) (point_most c)

-- ---- the squared distance of two points, and what it is compared with
pub gap_most : {k : ℕ} {x y : Float} → k + k + 5 < 1024 → Size k x → Size k y → Ends (k + k + 5) (gap_i x y)
unfolding gap_i
gap_most {k} K s t = ends_more (omega arith) (sqr_most {k = k + 2} (omega arith) (sub_most (omega arith) (point_most s) (point_most t)))

pub squared_most : {k : ℕ} (a b : Point3) → k + k + 9 < 1024 → Size3 k a → Size3 k b → Ends (k + k + 9) (squared_i a b)
squared_most {k} a b K s t =
    ends_more (omega arith)
    (add_most {k = k + k + 7} (omega arith) (ends_more (omega arith) (add_most {k = k + k + 5} (omega arith) (gap_most (omega arith) s.x_size t.x_size) (gap_most (omega arith) s.y_size t.y_size)))
    (ends_more (omega arith) (gap_most (omega arith) s.z_size t.z_size)))

pub excess_most : {k : ℕ} (t : Precision) (a b : Point3) → k + k + 11 < 1024 → Size 0 t.local → Size3 k a → Size3 k b → Ends (k + k + 11) (excess_i t a b)
excess_most {k} t a b K l s u = ends_more (omega arith) (sub_most {k = k + k + 9} (omega arith) (squared_most a b (omega arith) s u) (ends_more (omega arith) (sqr_most {k = 0} (omega arith) (point_most l))))

-- ---- THE TUBE IN THE DOMAIN: nothing is asked of the ends
module _ {t : Precision} (F : Fair t) {k : ℕ} (K : k ≤ 1000) {w : Plane} (f : Framed k w) {p : Point3} (s : Size3 k p) where
  pub domain_bounded : Bounded (distance_of w p)
  domain_bounded = ends_bounded (distance_most w p (omega arith) s f.from f.normal)

-- ---- NEAR IN THE DOMAIN: nor of those on the way to the squared distance less the square of local
pub near_bounded : {t : Precision} → Fair t → {k : ℕ} → k ≤ 500 → (a b : Point3) → Size3 k a → Size3 k b → Bounded (excess_i t a b)
near_bounded {t} F K a b s u = ends_bounded (excess_most t a b (omega arith) (local_size F) s u)
