-- Document 01's domain: points of coordinates of at most 2 ^ 20 in size, and planes at such a point with a frame's normal. Every end on the way to a distance is finite there, so what the tube
-- says of a side asks nothing more; and so is every end on the way to whether two points are near. Assumes nothing.
use Rattle.std.specs.Prelude.{◌≡◌, refl, ◌&&◌, ℕ, ◌+◌, ◌^◌, ◌≤◌}
use Rattle.std.proofs.Math.Nat.{le_trans}
use Rattle.std.proofs.Common.{le-add_left, pow_mono}
use native.Mathlib.Omega.{arith}
use Rattle.std.proofs.Math.Dec.{T}
use Rattle.std.specs.Float.Ieee.{binary64, le, of_bits}
use Rattle.std.specs.Float.Ieee.Bits.{of_bits-fits}
use Rattle.refusal.specs.Tests.{and_true}
use Rattle.float.specs.Float.{finite}
use Rattle.float.specs.Exact.{plus, minus}
use Rattle.float.proofs.Facts.{yes}
use Rattle.float.proofs.Places.{le_at, le_numbers, place_units, within}
use Rattle.float.proofs.Products.{finite_between}
use Rattle.interval.specs.declared.Interval.{Interval}
use Rattle.interval.specs.Ends.{point_i, add_i, sub_i, sqr_i}
use Rattle.space.specs.declared.Point3.{Point3}
use Rattle.space.specs.declared.Plane.{Plane}
use Rattle.space.specs.declared.Precision.{Precision}
use Rattle.space.specs.Vector.{finest, coarsest, most, fair_precision}
use Rattle.space.specs.Near.{gap_i}
use Rattle.tube.specs.Tube.{Held3, Given}
use Rattle.tube_domain.specs.Size.{power, Size, Size3}
use Rattle.tube_domain.specs.Normal.{Fair, finest_minus, Framed}

-- ---- a coordinate that passes, "finite and at most 2^20 in size"
pub most_plus : plus most ≡ power 20
unfolding of_bits power
most_plus = refl

pub most_minus : minus most ≡ 0
unfolding of_bits
most_minus = refl

-- ---- the squared distance of two points, and what it is compared with
-- as near has it (space/specs/Near): the sum (x+y)+z of the squared differences, less the square of local
abbrev pub squared_i : Point3 → Point3 → Interval
squared_i a b = add_i (add_i (gap_i a.x b.x) (gap_i a.y b.y)) (gap_i a.z b.z)

abbrev pub excess_i : Precision → Point3 → Point3 → Interval
excess_i t a b = sub_i (squared_i a b) (sqr_i (point_i t.local))

-- ---- the tolerance local: above zero, and at most 2 ^ -4
coarsest_plus : plus coarsest ≡ 2 ^ 1070
unfolding of_bits
coarsest_plus = refl

coarsest_minus : minus coarsest ≡ 0
unfolding of_bits
coarsest_minus = refl

module _ {t : Precision} (F : Fair t) where
  pub local_size : Size 0 t.local
  unfolding fair_precision power
  local_size =
      let a = and_true (le finest t.linear) (le t.linear t.local && le t.local coarsest) F.fair in
      let b = and_true (le t.linear t.local) (le t.local coarsest) a.1 in
      let x = yes a.0 in
      let y = yes b.0 in
      let z = yes b.1 in
      let m = le_numbers finest t.linear (of_bits-fits binary64 0x3d70_0000_0000_0000) F.linear_held x in
      let n = le_numbers t.linear t.local F.linear_held F.local_held y in
      let o = le_numbers t.local coarsest F.local_held (of_bits-fits binary64 0x3fb0_0000_0000_0000) z in
      let i = le_at m.0 m.1 x in
      let j = le_at n.0 n.1 y in
      let k = le_at o.0 o.1 z in
      let l = (within finest m.0.held (unfold of_bits in tt)).0 in
      let h = (within coarsest o.1.held (unfold of_bits in tt)).1 in
      let f : T (finite t.local) = finite_between n.1 (omega arith) (omega arith) in
      let p = place_units finest t.local m.0.held F.local_held (unfold of_bits in tt) f (omega arith) in
      let q = place_units t.local coarsest F.local_held o.1.held f (unfold of_bits in tt) k in
      let w : minus t.local ≤ plus t.local = above (plus finest) (plus t.local) (minus t.local) finest_minus p in
      record {
        within = record {
          held = F.local_held;
          bounded = f;
          most = under (plus t.local) (minus t.local) (2 ^ 1070) (2 ^ 1074) coarsest_plus coarsest_minus (pow_mono {i = 1070} {j = 1074} (omega arith)) q;
          least = le_trans w (le-add_left (plus t.local) (2 ^ 1074));
        };
      }
    where
      above : (a p m : ℕ) {z : ℕ} → z ≡ 0 → a + m ≤ p + z → m ≤ p
      above a p m e h = omega arith

      under : (p m c l : ℕ) {u z : ℕ} → u ≡ c → z ≡ 0 → c ≤ l → p + z ≤ u + m → p ≤ l + m
      under p m c l e f k h = omega arith

-- ---- THE TUBE IN THE DOMAIN: nothing is asked of the ends
held3 : {k : ℕ} {p : Point3} → Size3 k p → Held3 p
held3 s = record { x_held = s.x_size.within.held; y_held = s.y_size.within.held; z_held = s.z_size.within.held }

module _ {t : Precision} (F : Fair t) {k : ℕ} (K : k ≤ 1000) {w : Plane} (f : Framed k w) {p : Point3} (s : Size3 k p) where
  pub domain_given : Given t w p
  domain_given = record { local_held = F.local_held; local_finite = (local_size F).within.bounded; point = held3 s; from = held3 f.from; normal = held3 f.normal }
