-- A coordinate of a vector is at most twice as large as the vector's rounded length: the step from `refuted` (specs/Length).
use Rattle.std.specs.Prelude.{◌≡◌, ℕ, ◌+◌, ◌-◌, ◌*◌, ◌^◌, ◌≤◌, ◌<◌, Float}
use Rattle.std.proofs.Math.Path.{ap}
use Rattle.std.proofs.Common.{◌∙◌, inl, inr}
use native.Mathlib.Omega.{arith}
use Rattle.std.proofs.Math.Pow.{pow-add}
use Rattle.std.specs.Float.Ieee.{size}
use Rattle.std.specs.Float.Ieee.Digits.{size-lt, size_reaches}
use Rattle.float.specs.Exact.{plus}
use Rattle.float.proofs.Places.{side}
use Rattle.root.specs.Nearest.{NearestRoot}
use Rattle.tube_domain.specs.Size.{power}
use Rattle.tube_domain.specs.Length.{Reaches, pow_under, refuted}

-- ---- the root
-- a length r of 2 ^ -40 or more, which is the root of d, and a number of p - n units, at most 2 ^ k, whose square d reaches
module _ (d r : Float) (N : NearestRoot d r) (least : 2 ^ 1034 ≤ plus r) {k : ℕ} (K : k ≤ 500) (p n : ℕ) (most : p ≤ power k + n)
    (held : (i j : ℕ) → j < 2098 → i + i ≡ j + 1074 → 2 ^ i + n ≤ p → Reaches (2 ^ j) d) where
  pub not_longer : p ≤ 2 * plus r + n
  not_longer = elim (side (2 * plus r + n) p) [
    | inl l ↦
        let a : 1034 < size (plus r) = pow_under 1034 (size (plus r)) (plus r) least (size-lt (plus r)) in
        let b = size_reaches (plus r) (size (plus r) - 1) (omega arith) in
        let e : 2 ^ size (plus r) ≡ 2 ^ (size (plus r) - 1) * 2 = ap (λ (m : ℕ). 2 ^ m) (omega arith) ∙ pow-add 2 (size (plus r) - 1) 1 in
        absurd (refuted d r N least K p n most held (size (plus r)) (size-lt (plus r)) (omega arith))
    | inr l ↦ l
  ]
