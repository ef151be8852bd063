-- Sizes by powers of two: at most 2 ^ k, of numbers, of points and of the ends of intervals. Assumes nothing.
use Rattle.std.specs.Prelude.{ℕ, ◌+◌, ◌<◌, Float}
use Rattle.std.proofs.Common.{subst, le_of_eq, arith}
use Rattle.std.specs.Float.{binary64}
use Rattle.std.specs.Float.Ieee.{add, sub, mul}
use Rattle.interval.specs.declared.Interval.{Interval}
use Rattle.interval.specs.Ends.{add_i, sub_i, mul_i, sqr_i}
use Rattle.tube_domain.specs.Within.{Grid, add_within, sub_within, mul_within}
use Rattle.tube_domain.specs.Spans.{Spans}
use Rattle.tube_domain.proofs.Spans.{add_spans, sub_spans, mul_spans, sqr_spans}
use Rattle.tube_domain.specs.Size.{power, power_pos, power_next, power_times, power_grid, twice_power, Size, Ends}

-- below its double
power_less : (k : ℕ) → power k < power (k + 1)
power_less k = let e = power_next k in let p = power_pos k in omega arith

module _ {k : ℕ} {x y : Float} (K : k + 1 < 1024) (s : Size k x) (t : Size k y) where
  pub add_size : Size (k + 1) (add binary64 x y)
  add_size = record { within = add_within (power_grid (k + 1) K) (twice_power k) s.within t.within }

  pub sub_size : Size (k + 1) (sub binary64 x y)
  sub_size = record { within = sub_within (power_grid (k + 1) K) (twice_power k) s.within t.within }

pub mul_size : {i j : ℕ} {x y : Float} → i + j < 1024 → Size i x → Size j y → Size (i + j) (mul binary64 x y)
mul_size {i} {j} K s t = record { within = mul_within (power_grid (i + j) K) (le_of_eq (power_times i j)) s.within t.within }

-- a sum and a difference: twice as large, and a step
module _ {k : ℕ} {a b : Interval} (K : k + 2 < 1024) (e : Ends k a) (f : Ends k b) where
  first : Grid (power (k + 1))
  first = power_grid (k + 1) (omega arith)

  second : Grid (power (k + 1 + 1))
  second = power_grid (k + 1 + 1) (omega arith)

  last : (c : Interval) → Spans (power (k + 1 + 1)) c → Ends (k + 2) c
  last c s = record { spans = subst (λ (n : ℕ). Spans (power n) c) (omega arith) s }

  pub add_most : Ends (k + 2) (add_i a b)
  add_most = last (add_i a b) (add_spans second (power_less (k + 1)) first e.spans f.spans (twice_power k))

  pub sub_most : Ends (k + 2) (sub_i a b)
  sub_most = last (sub_i a b) (sub_spans second (power_less (k + 1)) first e.spans f.spans (twice_power k))

-- a product and a square: the product of the sizes, and a step
pub mul_most : {i j : ℕ} {a b : Interval} → i + j + 1 < 1024 → Ends i a → Ends j b → Ends (i + j + 1) (mul_i a b)
mul_most {i} {j} K e f = record { spans = mul_spans (power_grid (i + j + 1) K) (power_less (i + j)) (power_grid (i + j) (omega arith)) e.spans f.spans (le_of_eq (power_times i j)) }

pub sqr_most : {k : ℕ} {a : Interval} → k + k + 1 < 1024 → Ends k a → Ends (k + k + 1) (sqr_i a)
sqr_most {k} K e = record { spans = sqr_spans (power_grid (k + k + 1) K) (power_less (k + k)) (power_grid (k + k) (omega arith)) e.spans (le_of_eq (power_times k k)) }
