-- Refusal 8 is never given: the distances of an edge's two ends are certified on opposite sides of the tube, so their difference, a cut's denominator, excludes zero.
use Rattle.std.proofs.Math.Path.{◌≡◌, refl, ap}
use Rattle.std.proofs.Common.{sym, ◌∙◌, subst, arith}
use Rattle.std.specs.Prelude.{Bool, not, ◌&&◌, ◌||◌, List, ℕ, T, Ok, Err}
use Rattle.std.proofs.Math.Bool.{true, false}
use Rattle.std.proofs.lemmas.Bool.{not-false}
use Rattle.std.specs.Float.{binary64}
use Rattle.std.specs.Float.Ieee.{lt, le, of_bits}
use Rattle.std.specs.Float.Ieee.Bits.{of_bits-fits}
use Rattle.refusal.specs.Outcome.{Outcome, then, unless}
use Rattle.refusal.specs.Laws.{same_ok, then_ok, unless_ok}
use Rattle.refusal.specs.Tests.{and_true}
use Rattle.float.proofs.Laws.{Held, le_le}
use Rattle.interval.specs.declared.Sign.{Sign}
use Rattle.interval.specs.declared.Sign.TheVariants as S
use Rattle.interval.specs.Ends.{zero, point_i, add_i, sub_i, holds_zero, sign_of}
use Rattle.interval.specs.Box.{difference_i}
use Rattle.interval.proofs.Laws.{Ordered, dot_ordered, apart_denominator, apart_denominator_back}
use Rattle.space.specs.declared.Point3.{Point3}
use Rattle.space.specs.declared.Precision.{Precision}
use Rattle.space.specs.declared.Plane.{Plane}
use Rattle.space.specs.Vector.{box_of, finest, coarsest, fair_precision}
use Rattle.side.specs.declared.Side.{Side}
use Rattle.side.specs.declared.Side.TheVariants.{Positive, Negative, Zero}
use Rattle.side.specs.Sides.{distance_of, is_positive, is_negative, within, first_of, classed, side_of}
use Rattle.edge.specs.Meets.{crosses, vague, no_ratio}
use Rattle.words.specs.Little.{word_at, float_at}
use Rattle.job.specs.declared.Layout.{Layout}
use Rattle.job.specs.Records.{span_of}
use Rattle.job.specs.Read.{headed, precision_at, operation_at, layout_as, layout_with, layout_on, layout_after, layout_of}
use Rattle.jobs.specs.Jobs.{open_with, open_job}

-- ---- tolerances

-- local is a binary64 value, and not negative
pub record Sure (t : Precision) : Type 0 where
  pub held : Held t.local
  pub not_negative : T (le zero t.local)

finest_not_negative : T (le zero finest)
unfolding le lt of_bits
finest_not_negative = tt

-- so it is in tolerances that pass 01's test
pub fair_sure : (t : Precision) → Held t.linear → Held t.local → fair_precision t ≡ true → Sure t
unfolding fair_precision
fair_sure t h k e =
    let a = and_true (le finest t.linear) (le t.linear t.local && le t.local coarsest) e in
    let b = and_true (le t.linear t.local) (le t.local coarsest) a.1 in
    let z = le_le zero finest t.linear (of_bits-fits binary64 0) (of_bits-fits binary64 0x3d70_0000_0000_0000) h finest_not_negative (holds a.0) in
    record { held = k; not_negative = le_le zero t.linear t.local (of_bits-fits binary64 0) h k z (holds b.0) }
  where
    holds : {b : Bool} → b ≡ true → T b
    holds e = subst T (sym e) tt

-- and in those of a job that opens, whatever its bytes
read_at : (l : List ℕ) (y : Layout) → layout_of l ≡ Ok y → precision_at l 1 ≡ y.precision
unfolding layout_of layout_after layout_on layout_as
read_at l y e =
    let h = unless_ok (not (headed l)) 1 (then (span_of l 17) (layout_after l)) y e in
    let a = then_ok (span_of l 17) (layout_after l) y h.1 in
    let b = then_ok (span_of l a.0.end) (layout_on l a.0) y a.2 in
    let o = then_ok (operation_at l b.0.end) (layout_with l a.0 b.0) y b.2 in
    ap (λ z. z.precision) (same_ok o.2)

read_sure : (l : List ℕ) → fair_precision (precision_at l 1) ≡ true → Sure (precision_at l 1)
unfolding precision_at float_at
read_sure l e = fair_sure (precision_at l 1) (of_bits-fits binary64 (word_at l 1)) (of_bits-fits binary64 (word_at l 9)) e

pub opened_sure : (lends : Bool) (l : List ℕ) (y : Layout) → open_job lends l ≡ Ok y → Sure y.precision
unfolding open_job open_with
opened_sure lends l y e =
    let w = then_ok (layout_of l) (open_with lends) y e in
    let a = unless_ok (not lends) 12 (unless (not (fair_precision w.0.precision)) 2 (Ok w.0)) y w.2 in
    let b = unless_ok (not (fair_precision w.0.precision)) 2 (Ok w.0) y a.1 in
    let p : precision_at l 1 ≡ y.precision = read_at l w.0 w.1 ∙ ap (λ z. z.precision) (same_ok b.1) in
    let f : fair_precision w.0.precision ≡ true = not-false (fair_precision w.0.precision) b.0 in
    subst Sure p (read_sure l (ap fair_precision (read_at l w.0 w.1) ∙ f))

-- ---- what a side says of the distance

first_positive : (p n z : Bool) → first_of p n z ≡ Ok Positive → p ≡ true
first_positive true n z h = refl
first_positive false true z h = let q : ◌≡◌ {A = ℕ} 0 1 = cc in absurd (omega arith)
first_positive false false true h = let q : ◌≡◌ {A = ℕ} 0 1 = cc in absurd (omega arith)
first_positive false false false h = let q : ◌≡◌ {A = ℕ} 0 1 = cc in absurd (omega arith)

first_negative : (p n z : Bool) → first_of p n z ≡ Ok Negative → n ≡ true
first_negative true n z h = let q : ◌≡◌ {A = ℕ} 0 1 = cc in absurd (omega arith)
first_negative false true z h = refl
first_negative false false true h = let q : ◌≡◌ {A = ℕ} 0 1 = cc in absurd (omega arith)
first_negative false false false h = let q : ◌≡◌ {A = ℕ} 0 1 = cc in absurd (omega arith)

sign_positive : (s : Sign) → is_positive s ≡ true → s ≡ S.Positive
sign_positive S.Positive h = refl
sign_positive S.Negative h = let q : ◌≡◌ {A = ℕ} 0 1 = cc in absurd (omega arith)
sign_positive S.Zero h = let q : ◌≡◌ {A = ℕ} 0 1 = cc in absurd (omega arith)
sign_positive S.Unknown h = let q : ◌≡◌ {A = ℕ} 0 1 = cc in absurd (omega arith)

sign_negative : (s : Sign) → is_negative s ≡ true → s ≡ S.Negative
sign_negative S.Positive h = let q : ◌≡◌ {A = ℕ} 0 1 = cc in absurd (omega arith)
sign_negative S.Negative h = refl
sign_negative S.Zero h = let q : ◌≡◌ {A = ℕ} 0 1 = cc in absurd (omega arith)
sign_negative S.Unknown h = let q : ◌≡◌ {A = ℕ} 0 1 = cc in absurd (omega arith)

module _ (t : Precision) (w : Plane) (p : Point3) where
  -- Positive: distance - local is certified positive; Negative: distance + local is certified negative
  pub side_above : side_of t w p ≡ Ok Positive → sign_of (sub_i (distance_of w p) (point_i t.local)) ≡ S.Positive
  unfolding side_of classed
  side_above h =
      sign_positive (sign_of (sub_i (distance_of w p) (point_i t.local)))
      (first_positive (is_positive (sign_of (sub_i (distance_of w p) (point_i t.local)))) (is_negative (sign_of (add_i (distance_of w p) (point_i t.local)))) (within (distance_of w p) t.local) h)

  pub side_below : side_of t w p ≡ Ok Negative → sign_of (add_i (distance_of w p) (point_i t.local)) ≡ S.Negative
  unfolding side_of classed
  side_below h =
      sign_negative (sign_of (add_i (distance_of w p) (point_i t.local)))
      (first_negative (is_positive (sign_of (sub_i (distance_of w p) (point_i t.local)))) (is_negative (sign_of (add_i (distance_of w p) (point_i t.local)))) (within (distance_of w p) t.local) h)

-- a distance is a dot, so its ends are in order, whatever the numbers of plane and point are
distance_ordered : (w : Plane) (p : Point3) → Ordered (distance_of w p)
unfolding distance_of
distance_ordered w p = dot_ordered (difference_i (box_of p) (box_of w.frame.origin)) (box_of w.frame.z)

-- ---- a cut's denominator

module _ (t : Precision) (w : Plane) (a b : Point3) (s : Sure t) where
  pub never_8 : side_of t w a ≡ Ok Positive → side_of t w b ≡ Ok Negative → no_ratio w a b ≡ false
  unfolding no_ratio
  never_8 h k =
      let d = apart_denominator (distance_of w a) (distance_of w b) t.local (distance_ordered w a) (distance_ordered w b) s.held s.not_negative (side_above t w a h) (side_below t w b k) in
      ap (λ (x : Sign). vague x || holds_zero (sub_i (distance_of w a) (distance_of w b))) d.0 ∙ d.1

  pub never_8_back : side_of t w a ≡ Ok Negative → side_of t w b ≡ Ok Positive → no_ratio w a b ≡ false
  unfolding no_ratio
  never_8_back h k =
      let d = apart_denominator_back (distance_of w b) (distance_of w a) t.local (distance_ordered w b) (distance_ordered w a) s.held s.not_negative (side_above t w b k) (side_below t w a h) in
      ap (λ (x : Sign). vague x || holds_zero (sub_i (distance_of w a) (distance_of w b))) d.0 ∙ d.1

  -- so of every edge whose ends lie on opposite sides
  pub crossing_sure : crosses (side_of t w a) (side_of t w b) ≡ true → no_ratio w a b ≡ false
  unfolding crosses
  crossing_sure h = by (side_of t w a) (side_of t w b) never_8 never_8_back h
    where
      by : (x y : Outcome Side) → (x ≡ Ok Positive → y ≡ Ok Negative → no_ratio w a b ≡ false) → (x ≡ Ok Negative → y ≡ Ok Positive → no_ratio w a b ≡ false) → crosses x y ≡ true → no_ratio w a b ≡ false
      by (Ok Positive) (Ok Positive) f g h = let q : ◌≡◌ {A = ℕ} 0 1 = cc in absurd (omega arith)
      by (Ok Positive) (Ok Negative) f g h = f refl refl
      by (Ok Positive) (Ok Zero) f g h = let q : ◌≡◌ {A = ℕ} 0 1 = cc in absurd (omega arith)
      by (Ok Positive) (Err r) f g h = let q : ◌≡◌ {A = ℕ} 0 1 = cc in absurd (omega arith)
      by (Ok Negative) (Ok Positive) f g h = g refl refl
      by (Ok Negative) (Ok Negative) f g h = let q : ◌≡◌ {A = ℕ} 0 1 = cc in absurd (omega arith)
      by (Ok Negative) (Ok Zero) f g h = let q : ◌≡◌ {A = ℕ} 0 1 = cc in absurd (omega arith)
      by (Ok Negative) (Err r) f g h = let q : ◌≡◌ {A = ℕ} 0 1 = cc in absurd (omega arith)
      by (Ok Zero) y f g h = let q : ◌≡◌ {A = ℕ} 0 1 = cc in absurd (omega arith)
      by (Err r) y f g h = let q : ◌≡◌ {A = ℕ} 0 1 = cc in absurd (omega arith)
