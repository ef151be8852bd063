-- What the sense of a shell means: a shell called outward has an exactly positive six-fold volume, one called inward a negative one.
use Rattle.std.specs.Prelude.{◌≡◌, refl, ℕ, ◌^◌, ◌<◌, Ok}
use mathlib.Core.List.{List, [], ◌∷◌, map}
use Rattle.std.proofs.Common.{arith, pow_pos}
use Rattle.std.specs.Float.{binary64}
use Rattle.std.specs.Float.Ieee.{of_bits}
use Rattle.std.specs.Float.Ieee.Fits.{nan-fits}
use Rattle.float.proofs.Places.{zero_number}
use Rattle.interval.specs.declared.Interval.{Interval}
use Rattle.interval.specs.declared.Sign.{Sign}
use Rattle.interval.specs.declared.Sign.TheVariants as S
use Rattle.interval.specs.Ends.{zero, point_i, add_i, sub_i, mul_i, sign_of}
use Rattle.interval.specs.Box.{difference_i, cross_i}
use Rattle.interval.specs.Exact.{Holds, Bounded}
use Rattle.interval.proofs.Laws.{Ordered, point_ordered, mul_ordered, add_ordered}
use Rattle.interval.proofs.Sound.{holds_positive, holds_negative}
use Rattle.space.specs.declared.Point3.{Point3}
use Rattle.space.specs.Vector.{box_of}
use Rattle.polygon.specs.Members.{All}
use Rattle.bodies.specs.Fusing.{outward, inward}
use Rattle.volume.specs.Volume.{wedge, fan, fan_of, volume_from, first_corner, sense_of, volume_sign}
use Rattle.tube.specs.Whole.{Whole, nought, sum, product}
use Rattle.tube.specs.Sure.{Sure, sure_finite, sure_as, gap_sure, add_sure, sub_sure, mul_sure}
use Rattle.tube.specs.Tube.{Held3}
use Rattle.tube_volume.specs.Sixfold.{arm, minor, determinant, fan_volume, facet_volume, shell_volume, sixfold}
use Rattle.tube_volume.specs.Volume.{Signed, volume_i, Total, from}

total_as : {v : Interval} (d e : Whole) → d.more ≡ e.more → d.less ≡ e.less → Total v d → Total v e
total_as d e p q U = record { ordered = U.ordered; sure = sure_as d e p q U.sure }

-- ---- one triangle, seen from o: six times the volume of its tetrahedron, added in three parts
minor_sure : (p q r s : Interval) (P Q R S : Whole) → Sure p P 1 → Sure q Q 1 → Sure r R 1 → Sure s S 1
    → Sure (sub_i (mul_i p q) (mul_i r s)) (minor P Q R S) (2 ^ 1074)
minor_sure p q r s P Q R S i j k l =
    sub_sure (mul_i p q) (mul_i r s) (product P Q) (product R S) (2 ^ 1074) (mul_ordered p q) (mul_ordered r s)
    (mul_sure p q P Q 1 1 i j) (mul_sure r s R S 1 1 k l)

part_sure : (a p q r s : Interval) (A P Q R S : Whole) → Sure a A 1 → Sure p P 1 → Sure q Q 1 → Sure r R 1 → Sure s S 1
    → Sure (mul_i a (sub_i (mul_i p q) (mul_i r s))) (product A (minor P Q R S)) (2 ^ 2148)
part_sure a p q r s A P Q R S h i j k l =
    mul_sure a (sub_i (mul_i p q) (mul_i r s)) A (minor P Q R S) 1 (2 ^ 1074) h (minor_sure p q r s P Q R S i j k l)

add_total : (v a : Interval) (d e : Whole) → Total v d → Ordered a → Sure a e (2 ^ 2148) → Total (add_i v a) (sum d e)
add_total v a d e U o S = record { ordered = add_ordered v a U.ordered o; sure = add_sure v a d e (2 ^ 2148) U.ordered o U.sure S }

module _ (o a b c : Point3) (O : Held3 o) (A : Held3 a) (B : Held3 b) (C : Held3 c) where
  wedge_total : (v : Interval) (d : Whole) → Total v d
      → Total (wedge v (from o a) (cross_i (from o b) (from o c))) (sum d (determinant (arm o a) (arm o b) (arm o c)))
  unfolding wedge cross_i difference_i box_of
  wedge_total v d U =
      let f = arm o a in
      let g = arm o b in
      let h = arm o c in
      let ax = gap_sure a.x o.x A.x_held O.x_held in
      let ay = gap_sure a.y o.y A.y_held O.y_held in
      let az = gap_sure a.z o.z A.z_held O.z_held in
      let bx = gap_sure b.x o.x B.x_held O.x_held in
      let by = gap_sure b.y o.y B.y_held O.y_held in
      let bz = gap_sure b.z o.z B.z_held O.z_held in
      let cx = gap_sure c.x o.x C.x_held O.x_held in
      let cy = gap_sure c.y o.y C.y_held O.y_held in
      let cz = gap_sure c.z o.z C.z_held O.z_held in
      let px = part_sure _ _ _ _ _ f.x g.y h.z g.z h.y ax by cz bz cy in
      let py = part_sure _ _ _ _ _ f.y g.z h.x g.x h.z ay bz cx bx cz in
      let pz = part_sure _ _ _ _ _ f.z g.x h.y g.y h.x az bx cy by cx in
      let x = product f.x (minor g.y h.z g.z h.y) in
      let y = product f.y (minor g.z h.x g.x h.z) in
      let z = product f.z (minor g.x h.y g.y h.x) in
      total_as (sum (sum (sum d x) y) z) (sum d (sum (sum x y) z)) (omega arith) (omega arith)
      (add_total _ _ (sum (sum d x) y) z
      (add_total _ _ (sum d x) y (add_total v _ d x U (mul_ordered _ _) px) (mul_ordered _ _) py) (mul_ordered _ _) pz)

-- ---- a fan, a facet, a shell
module _ (o : Point3) (O : Held3 o) where
  fan_total : (a : Point3) (l : List Point3) → Held3 a → All Held3 l → (v : Interval) (d : Whole) → Total v d
      → Total (fan v (from o a) (map (from o) l)) (sum d (fan_volume (arm o a) (map (arm o) l)))
  unfolding fan fan_volume All
  fan_total a [] A L v d U = total_as d (sum d nought) (omega arith) (omega arith) U
  fan_total a (b ∷ []) A L v d U = total_as d (sum d nought) (omega arith) (omega arith) U
  fan_total a (b ∷ c ∷ l) A L v d U =
      let e = determinant (arm o a) (arm o b) (arm o c) in
      let r = fan_volume (arm o a) (map (arm o) (c ∷ l)) in
      total_as (sum (sum d e) r) (sum d (sum e r)) (omega arith) (omega arith)
      (fan_total a (c ∷ l) A L.1 _ (sum d e) (wedge_total o a b c O A L.0 L.1.0 v d U))

  facet_total : (f : List Point3) → All Held3 f → (v : Interval) (d : Whole) → Total v d
      → Total (fan_of v (map (from o) f)) (sum d (facet_volume (map (arm o) f)))
  unfolding fan_of facet_volume All
  facet_total [] F v d U = total_as d (sum d nought) (omega arith) (omega arith) U
  facet_total (a ∷ l) F v d U = fan_total a l F.0 F.1 v d U

  shell_total : (l : List (List Point3)) → All (All Held3) l → (v : Interval) (d : Whole) → Total v d
      → Total (volume_from (box_of o) v l) (sum d (shell_volume o l))
  unfolding volume_from shell_volume All
  shell_total [] L v d U = total_as d (sum d nought) (omega arith) (omega arith) U
  shell_total (f ∷ l) L v d U =
      let e = facet_volume (map (arm o) f) in
      let r = shell_volume o l in
      total_as (sum (sum d e) r) (sum d (sum e r)) (omega arith) (omega arith)
      (shell_total l L.1 _ (sum d e) (facet_total f L.0 v d U))

-- ---- the first corner, and the empty sum
first_held : (l : List (List Point3)) → All (All Held3) l → Held3 (first_corner l)
unfolding All
first_held [] L = record { x_held = nan-fits binary64; y_held = nan-fits binary64; z_held = nan-fits binary64 }
first_held ([] ∷ l) L = record { x_held = nan-fits binary64; y_held = nan-fits binary64; z_held = nan-fits binary64 }
first_held ((q ∷ f) ∷ l) L = L.0.0

zero_holds : (c : ℕ) → 0 < c → Holds (point_i zero) 0 0 c
unfolding of_bits
zero_holds c h = record { over = h; low = omega arith; high = omega arith }

start : Total (point_i zero) nought
start = record {
  ordered = point_ordered zero zero_number;
  sure = record { lo_held = zero_number.held; hi_held = zero_number.held; holds = λ B. zero_holds (2 ^ 2148) (pow_pos 2148) };
}

-- ---- the two answers
called_outward : (s : Sign) → sense_of s ≡ Ok outward → s ≡ S.Positive
unfolding sense_of
called_outward S.Positive e = refl
called_outward S.Negative e = let q : ◌≡◌ {A = ℕ} 0 1 = cc in absurd (omega arith)
called_outward S.Zero e = let q : ◌≡◌ {A = ℕ} 0 1 = cc in absurd (omega arith)
called_outward S.Unknown e = let q : ◌≡◌ {A = ℕ} 0 1 = cc in absurd (omega arith)

called_inward : (s : Sign) → sense_of s ≡ Ok inward → s ≡ S.Negative
unfolding sense_of
called_inward S.Positive e = let q : ◌≡◌ {A = ℕ} 0 1 = cc in absurd (omega arith)
called_inward S.Negative e = refl
called_inward S.Zero e = let q : ◌≡◌ {A = ℕ} 0 1 = cc in absurd (omega arith)
called_inward S.Unknown e = let q : ◌≡◌ {A = ℕ} 0 1 = cc in absurd (omega arith)

-- ---- the theorem: where the two ends of the volume are finite; all ends on the way are then, too
pub shell_signed : (l : List (List Point3)) → All (All Held3) l → Bounded (volume_i l) → Signed l
unfolding sixfold volume_sign
shell_signed l L B =
    let U = (shell_total (first_corner l) (first_held l L) l L (point_i zero) nought start).sure in
    let F = sure_finite U B in
    record {
      out = λ e. omega (arith, holds_positive (volume_i l) _ _ (2 ^ 2148) F (U.holds B) (called_outward (sign_of (volume_i l)) e));
      inn = λ e. omega (arith, holds_negative (volume_i l) _ _ (2 ^ 2148) F (U.holds B) (called_inward (sign_of (volume_i l)) e));
    }
