-- What an answer of the side test says of the ends of the distance's interval. Assumes nothing.
use Rattle.std.specs.Prelude.{◌≡◌, refl, Bool, true, false, ℕ, Ok}
use Rattle.std.proofs.Common.{sym, arith}
use Rattle.std.proofs.Math.Path.{subst}
use Rattle.std.proofs.Math.Dec.{T}
use Rattle.std.specs.Float.Ieee.{le, neg}
use Rattle.refusal.specs.Tests.{and_true}
use Rattle.interval.specs.declared.Sign.{Sign}
use Rattle.interval.specs.declared.Sign.TheVariants as S
use Rattle.interval.specs.Ends.{point_i, add_i, sub_i, sign_of}
use Rattle.interval.specs.Box.{difference_i}
use Rattle.interval.proofs.Laws.{Ordered, dot_ordered}
use Rattle.space.specs.declared.Point3.{Point3}
use Rattle.space.specs.declared.Plane.{Plane}
use Rattle.space.specs.declared.Precision.{Precision}
use Rattle.space.specs.Vector.{box_of}
use Rattle.side.specs.declared.Side.TheVariants.{Positive, Negative, Zero}
use Rattle.side.specs.Sides.{distance_of, is_positive, is_negative, within, first_of, classed, side_of}

first_positive : (p n z : Bool) → first_of p n z ≡ Ok Positive → p ≡ true
first_positive true n z e = refl
first_positive false true z e = let q : ◌≡◌ {A = ℕ} 0 1 = cc in absurd (omega arith)
first_positive false false true e = let q : ◌≡◌ {A = ℕ} 0 1 = cc in absurd (omega arith)
first_positive false false false e = let q : ◌≡◌ {A = ℕ} 0 1 = cc in absurd (omega arith)

first_negative : (p n z : Bool) → first_of p n z ≡ Ok Negative → n ≡ true
first_negative true n z e = let q : ◌≡◌ {A = ℕ} 0 1 = cc in absurd (omega arith)
first_negative false true z e = refl
first_negative false false true e = let q : ◌≡◌ {A = ℕ} 0 1 = cc in absurd (omega arith)
first_negative false false false e = let q : ◌≡◌ {A = ℕ} 0 1 = cc in absurd (omega arith)

first_zero : (p n z : Bool) → first_of p n z ≡ Ok Zero → z ≡ true
first_zero true n z e = let q : ◌≡◌ {A = ℕ} 0 1 = cc in absurd (omega arith)
first_zero false true z e = let q : ◌≡◌ {A = ℕ} 0 1 = cc in absurd (omega arith)
first_zero false false true e = refl
first_zero false false false e = let q : ◌≡◌ {A = ℕ} 0 1 = cc in absurd (omega arith)

sign_positive : (s : Sign) → is_positive s ≡ true → s ≡ S.Positive
sign_positive S.Positive e = refl
sign_positive S.Negative e = let q : ◌≡◌ {A = ℕ} 0 1 = cc in absurd (omega arith)
sign_positive S.Zero e = let q : ◌≡◌ {A = ℕ} 0 1 = cc in absurd (omega arith)
sign_positive S.Unknown e = let q : ◌≡◌ {A = ℕ} 0 1 = cc in absurd (omega arith)

sign_negative : (s : Sign) → is_negative s ≡ true → s ≡ S.Negative
sign_negative S.Positive e = let q : ◌≡◌ {A = ℕ} 0 1 = cc in absurd (omega arith)
sign_negative S.Negative e = refl
sign_negative S.Zero e = let q : ◌≡◌ {A = ℕ} 0 1 = cc in absurd (omega arith)
sign_negative S.Unknown e = let q : ◌≡◌ {A = ℕ} 0 1 = cc in absurd (omega arith)

module _ (t : Precision) (w : Plane) (p : Point3) where
  -- Positive: distance - local is certified positive; Negative: distance + local is certified negative
  pub side_above : side_of t w p ≡ Ok Positive → sign_of (sub_i (distance_of w p) (point_i t.local)) ≡ S.Positive
  unfolding side_of classed
  side_above e =
      sign_positive (sign_of (sub_i (distance_of w p) (point_i t.local)))
      (first_positive (is_positive (sign_of (sub_i (distance_of w p) (point_i t.local))))
      (is_negative (sign_of (add_i (distance_of w p) (point_i t.local)))) (within (distance_of w p) t.local) e)

  pub side_below : side_of t w p ≡ Ok Negative → sign_of (add_i (distance_of w p) (point_i t.local)) ≡ S.Negative
  unfolding side_of classed
  side_below e =
      sign_negative (sign_of (add_i (distance_of w p) (point_i t.local)))
      (first_negative (is_positive (sign_of (sub_i (distance_of w p) (point_i t.local))))
      (is_negative (sign_of (add_i (distance_of w p) (point_i t.local)))) (within (distance_of w p) t.local) e)

  -- Zero: both ends lie in the tube
  pub side_zero : side_of t w p ≡ Ok Zero → T (le (neg t.local) (distance_of w p).lo) × T (le (distance_of w p).hi t.local)
  unfolding side_of classed
  side_zero e =
      let h = first_zero (is_positive (sign_of (sub_i (distance_of w p) (point_i t.local))))
      (is_negative (sign_of (add_i (distance_of w p) (point_i t.local)))) (within (distance_of w p) t.local) e in
      let a = and_true (le (neg t.local) (distance_of w p).lo) (le (distance_of w p).hi t.local) h in
      (subst T (sym a.0) tt, subst T (sym a.1) tt)

-- a distance is a dot, so its ends are in order, whatever the numbers of plane and point are
pub distance_ordered : (w : Plane) (p : Point3) → Ordered (distance_of w p)
unfolding distance_of
distance_ordered w p = dot_ordered (difference_i (box_of p) (box_of w.frame.origin)) (box_of w.frame.z)
