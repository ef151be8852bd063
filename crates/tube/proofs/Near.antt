-- What near means: two points called Near are nearer to each other than local, two called Apart farther, in exact arithmetic.
use Rattle.std.specs.Prelude.{◌≡◌, refl, ℕ, ◌^◌, Float, Ok}
use Rattle.std.proofs.Common.{arith}
use Rattle.float.proofs.Laws.{Held}
use Rattle.interval.specs.declared.Interval.{Interval}
use Rattle.interval.specs.declared.Sign.{Sign}
use Rattle.interval.specs.declared.Sign.TheVariants as S
use Rattle.interval.specs.Ends.{point_i, add_i, sub_i, sqr_i, sign_of}
use Rattle.interval.specs.Exact.{Bounded}
use Rattle.interval.proofs.Laws.{Ordered, add_ordered, sqr_ordered}
use Rattle.interval.proofs.Sound.{holds_positive, holds_negative}
use Rattle.space.specs.declared.Point3.{Point3}
use Rattle.space.specs.declared.Precision.{Precision}
use Rattle.space.specs.declared.Closeness.TheVariants.{Near, Apart}
use Rattle.space.specs.Near.{closeness_of, gap_i, near_of}
use Rattle.tube.specs.Whole.{units, difference}
use Rattle.tube.specs.Distance.{square, squared_distance, Nearer, Farther}
use Rattle.tube.specs.Tube.{Held3}
use Rattle.tube.specs.Strict.{sub_never_zero}
use Rattle.tube.specs.Sure.{Sure, sure_finite, point_sure, gap_sure, add_sure, sub_sure, sqr_sure}
use Rattle.tube.specs.Near.{Nearness, squared_i, excess_i}

-- ---- the exact squares are held
axis_ordered : (x y : Float) → Ordered (gap_i x y)
unfolding gap_i
axis_ordered x y = sqr_ordered (sub_i (point_i x) (point_i y))

axis_sure : (x y : Float) → Held x → Held y → Sure (gap_i x y) (square (difference (units x) (units y))) (2 ^ 1074)
unfolding gap_i
axis_sure x y f g = sqr_sure (sub_i (point_i x) (point_i y)) (difference (units x) (units y)) 1 (gap_sure x y f g)

module _ (t : Precision) (a b : Point3) where
  abbrev flat : Interval
  flat = add_i (gap_i a.x b.x) (gap_i a.y b.y)

  flat_ordered : Ordered (add_i (gap_i a.x b.x) (gap_i a.y b.y))
  flat_ordered = add_ordered (gap_i a.x b.x) (gap_i a.y b.y) (axis_ordered a.x b.x) (axis_ordered a.y b.y)

  squared_ordered : Ordered (squared_i a b)
  squared_ordered = add_ordered flat (gap_i a.z b.z) flat_ordered (axis_ordered a.z b.z)

  squared_sure : Held3 a → Held3 b → Sure (squared_i a b) (squared_distance a b) (2 ^ 1074)
  unfolding squared_distance
  squared_sure A B =
      add_sure flat (gap_i a.z b.z) _ _ (2 ^ 1074) flat_ordered (axis_ordered a.z b.z)
      (add_sure (gap_i a.x b.x) (gap_i a.y b.y) _ _ (2 ^ 1074) (axis_ordered a.x b.x) (axis_ordered a.y b.y)
      (axis_sure a.x b.x A.x_held B.x_held) (axis_sure a.y b.y A.y_held B.y_held))
      (axis_sure a.z b.z A.z_held B.z_held)

  pub excess_sure : Held t.local → Held3 a → Held3 b
      → Sure (excess_i t a b) (difference (squared_distance a b) (square (units t.local))) (2 ^ 1074)
  excess_sure L A B =
      sub_sure (squared_i a b) (sqr_i (point_i t.local)) (squared_distance a b) (square (units t.local)) (2 ^ 1074)
      squared_ordered (sqr_ordered (point_i t.local)) (squared_sure A B) (sqr_sure (point_i t.local) (units t.local) 1 (point_sure t.local L))

-- ---- the two answers
called_apart : (s : Sign) → closeness_of s ≡ Ok Apart → s ≡ S.Positive
unfolding closeness_of
called_apart S.Positive e = refl
called_apart S.Negative e = let q : ◌≡◌ {A = ℕ} 0 1 = cc in absurd (omega arith)
called_apart S.Zero e = let q : ◌≡◌ {A = ℕ} 0 1 = cc in absurd (omega arith)
called_apart S.Unknown e = let q : ◌≡◌ {A = ℕ} 0 1 = cc in absurd (omega arith)

called_near : (s : Sign) → (s ≡ S.Zero → ⊥) → closeness_of s ≡ Ok Near → s ≡ S.Negative
unfolding closeness_of
called_near S.Positive n e = let q : ◌≡◌ {A = ℕ} 0 1 = cc in absurd (omega arith)
called_near S.Negative n e = refl
called_near S.Zero n e = absurd (n refl)
called_near S.Unknown n e = let q : ◌≡◌ {A = ℕ} 0 1 = cc in absurd (omega arith)

module _ (t : Precision) (a b : Point3) (L : Held t.local) (A : Held3 a) (B : Held3 b) (F : Bounded (excess_i t a b)) where
  sure : Sure (excess_i t a b) (difference (squared_distance a b) (square (units t.local))) (2 ^ 1074)
  sure = excess_sure t a b L A B

  pub nearer : near_of t a b ≡ Ok Near → Nearer t.local a b
  unfolding near_of
  nearer e =
      let z = sub_never_zero (squared_i a b) (sqr_i (point_i t.local)) (squared_ordered t a b) (sqr_ordered (point_i t.local)) F in
      let s = called_near (sign_of (excess_i t a b)) z e in
      omega (arith, holds_negative (excess_i t a b) _ _ (2 ^ 1074) (sure_finite sure F) (sure.holds F) s)

  pub farther : near_of t a b ≡ Ok Apart → Farther t.local a b
  unfolding near_of
  farther e =
      let s = called_apart (sign_of (excess_i t a b)) e in
      omega (arith, holds_positive (excess_i t a b) _ _ (2 ^ 1074) (sure_finite sure F) (sure.holds F) s)

-- ---- the theorem: where the two ends of the interval whose sign decides are finite; all ends on the way are then, too
pub nearness : (t : Precision) (a b : Point3) → Held t.local → Held3 a → Held3 b → Bounded (excess_i t a b) → Nearness t a b
nearness t a b L A B F = record { near = nearer t a b L A B F; apart = farther t a b L A B F }
