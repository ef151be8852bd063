-- A frame's normal has coordinates of at most 2 in size, whatever it is made from: a vector over its length, which is above linear, and that is 2 ^ -40 or more. Assumes nothing.
use Rattle.std.specs.Prelude.{◌≡◌, refl, true, false, ◌&&◌, ℕ, zero, suc, ◌+◌, ◌*◌, ◌/◌, ◌^◌, ◌≤◌, ◌<◌, T, Float}
use Rattle.std.proofs.Common.{ap, ◌∙◌, zero-mul, le-add_right, lt→ltb, pow_pos}
use Rattle.std.proofs.Math.Nat.{zero-div, le_trans}
use native.Mathlib.Omega.{arith}
use Rattle.std.proofs.lemmas.Bool.{not-false}
use Rattle.std.specs.Float.{nan, inf, fin}
use Rattle.std.specs.Float.Ieee.{binary64, up, down, lt, le, of_bits}
use Rattle.std.specs.Float.Ieee.Bits.{of_bits-fits}
use Rattle.std.specs.Float.Ieee.Positive.{positive}
use Rattle.refusal.specs.Tests.{and_true}
use Rattle.float.specs.Float.{finite}
use Rattle.float.specs.Exact.{plus, minus}
use Rattle.float.proofs.Facts.{yes}
use Rattle.float.proofs.Laws.{Held}
use Rattle.float.proofs.Places.{le_at, lt_at, le_numbers, lt_numbers, place_units}
use Rattle.space.specs.declared.Point3.{Point3}
use Rattle.space.specs.declared.Plane.{Plane}
use Rattle.space.specs.declared.Precision.{Precision}
use Rattle.space.specs.Vector.{neg_v, finest, fair_precision}
use Rattle.space.specs.Frames.{short}
use Rattle.tube_domain.specs.Size.{Size3, size_more, size_neg}

-- ---- tolerances of document 01: "2^-40 <= linear <= local <= 2^-4"
pub record Fair (t : Precision) : Type 0 where
  pub linear_held : Held t.linear
  pub local_held : Held t.local
  pub fair : fair_precision t ≡ true

finest_plus : plus finest ≡ 2 ^ 1034
unfolding of_bits
finest_plus = refl

pub finest_minus : minus finest ≡ 0
unfolding of_bits
finest_minus = refl

-- a finite number of some units is above zero
positive_of : (l : Float) (n : ℕ) → 0 < n → T (finite l) → n + minus l ≤ plus l → T (positive l)
positive_of nan n h f e = f
positive_of (inf s) n h f e = f
positive_of (fin true m d) n h f e = absurd (omega arith)
positive_of (fin false zero d) n h f e = absurd (none (plus (fin false zero d)) (ap (λ (k : ℕ). k * 2 ^ 1074 / down d) (zero-mul (up d)) ∙ ap (λ (k : ℕ). k / down d) (zero-mul (2 ^ 1074)) ∙ zero-div (down d)) e)
  where
    none : (k : ℕ) → k ≡ 0 → n + 0 ≤ k → ⊥
    none k z e = omega arith
positive_of (fin false (suc m) d) n h f e = lt→ltb 0 (suc m) (omega arith)

module _ (t : Precision) (F : Fair t) where
  linear_least : T (le finest t.linear)
  unfolding fair_precision
  linear_least = yes (and_true (le finest t.linear) _ F.fair).0

  -- "A length that is not above linear, or not finite, refuses"
  pub long : (l : Float) → Held l → short t l ≡ false → T (positive l) × (2 ^ 1034 ≤ plus l)
  unfolding short
  long l h e =
      let q = and_true (lt t.linear l) (finite l) (not-false (lt t.linear l && finite l) e) in
      let m = le_numbers finest t.linear (of_bits-fits binary64 _) F.linear_held linear_least in
      let n = lt_numbers t.linear l F.linear_held h (yes q.0) in
      let a = le_at m.0 m.1 linear_least in
      let b = lt_at n.0 n.1 (yes q.0) in
      let u = place_units finest l m.0.held h (unfold of_bits in tt) (yes q.1) (omega arith) in
      let v = reaches (2 ^ 1034) (plus finest) (minus finest) (plus l) (minus l) finest_plus finest_minus u in
      (positive_of l (2 ^ 1034) (pow_pos 1034) (yes q.1) v, le_trans (le-add_right (2 ^ 1034) (minus l)) v)
    where
      reaches : (n p q r s : ℕ) → p ≡ n → q ≡ 0 → p + s ≤ r + q → n + s ≤ r
      reaches n p q r s e z h = omega arith

-- ---- vectors
pub neg3_size : {k : ℕ} {a : Point3} → Size3 k a → Size3 k (neg_v a)
unfolding neg_v
neg3_size s = record { x_size = size_neg s.x_size; y_size = size_neg s.y_size; z_size = size_neg s.z_size }

pub size3_more : {i j : ℕ} {a : Point3} → i ≤ j → Size3 i a → Size3 j a
size3_more h s = record { x_size = size_more h s.x_size; y_size = size_more h s.y_size; z_size = size_more h s.z_size }

-- ---- the planes of document 01: an origin of at most 2 ^ k, and a frame's normal
pub record Framed (k : ℕ) (w : Plane) : Type 0 where
  pub from : Size3 k w.frame.origin
  pub normal : Size3 1 w.frame.z
