-- Sizes by powers of two: at most 2 ^ k, of numbers, of points and of the ends of intervals. Assumes nothing.
use Rattle.std.specs.Prelude.{◌≡◌, refl, ℕ, ◌+◌, ◌*◌, ◌^◌, ◌≤◌, ◌<◌, Float}
use Rattle.std.proofs.Common.{sym, ap, ◌∙◌, le_of_eq, lt_of_lt_of_le, one-mul, arith, pow_pos, pow_mono, pow-add, shl_lt}
use Rattle.std.proofs.Math.Pow.{pow-lt}
use Rattle.std.specs.Float.Ieee.{neg}
use Rattle.interval.specs.declared.Interval.{Interval}
use Rattle.interval.specs.Ends.{zero, point_i}
use Rattle.interval.specs.Exact.{Bounded, Finite}
use Rattle.space.specs.declared.Point3.{Point3}
use Rattle.tube_domain.specs.Within.{Within, Grid, within_more, within_neg}
use Rattle.tube_domain.specs.Spans.{Spans, zero_within, spans_more, spans_finite}

-- ---- 2 ^ j units are a value of the format
pub pow_grid : (j : ℕ) → j < 2098 → Grid (2 ^ j)
pow_grid j h = record { digits = 1; shift = j; few = pow-lt {i = 0} {j = 53} (omega arith); under = pow-lt h; is = sym (one-mul (2 ^ j)) }

-- ---- 2 ^ k, in units
unfoldable pub power : ℕ → ℕ
power k = 2 ^ (k + 1074)

pub power_pos : (k : ℕ) → 0 < power k
unfolding power
power_pos k = pow_pos (k + 1074)

pub power_next : (k : ℕ) → power (k + 1) ≡ power k + power k
unfolding power
power_next k = ap (λ (n : ℕ). 2 ^ n) (omega arith) ∙ pow-add 2 (k + 1074) 1 ∙ twice (2 ^ (k + 1074))
  where
    twice : (n : ℕ) → n * 2 ≡ n + n
    twice n = omega arith

pub power_mono : {i j : ℕ} → i ≤ j → power i ≤ power j
unfolding power
power_mono {i} {j} h = pow_mono {i = i + 1074} {j = j + 1074} (omega arith)

pub power_times : (i j : ℕ) → power i * power j ≡ power (i + j) * 2 ^ 1074
unfolding power
power_times i j = sym (pow-add 2 (i + 1074) (j + 1074)) ∙ ap (λ (n : ℕ). 2 ^ n) (omega arith) ∙ pow-add 2 (i + j + 1074) 1074

pub power_grid : (k : ℕ) → k < 1024 → Grid (power k)
unfolding power
power_grid k h = pow_grid (k + 1074) (omega arith)

-- and some of them
pub multiple_grid : (q k : ℕ) → q < 2 ^ 53 → k < 971 → Grid (q * power k)
unfolding power
multiple_grid q k h K = record { digits = q; shift = k + 1074; few = h; under = lt_of_lt_of_le (shl_lt 53 (k + 1074) h) (pow_mono {i = 53 + (k + 1074)} {j = 2098} (omega arith)); is = refl }

pub twice_power : (k : ℕ) → power k + power k ≤ power (k + 1)
twice_power k = le_of_eq (sym (power_next k))

-- ---- numbers
pub record Size (k : ℕ) (x : Float) : Type 0 where
  pub within : Within (power k) x

pub size_more : {i j : ℕ} {x : Float} → i ≤ j → Size i x → Size j x
size_more h s = record { within = within_more (power_mono h) s.within }

pub zero_size : {k : ℕ} → Size k zero
zero_size {k} = record { within = zero_within (power k) }

pub size_neg : {k : ℕ} {x : Float} → Size k x → Size k (neg x)
size_neg s = record { within = within_neg s.within }

pub record Size3 (k : ℕ) (p : Point3) : Type 0 where
  pub x_size : Size k p.x
  pub y_size : Size k p.y
  pub z_size : Size k p.z

-- ---- intervals
pub record Ends (k : ℕ) (a : Interval) : Type 0 where
  pub spans : Spans (power k) a

pub ends_more : {i j : ℕ} {a : Interval} → i ≤ j → Ends i a → Ends j a
ends_more h e = record { spans = spans_more (power_mono h) e.spans }

pub ends_finite : {k : ℕ} {a : Interval} → Ends k a → Finite a
ends_finite e = spans_finite e.spans

pub ends_bounded : {k : ℕ} {a : Interval} → Ends k a → Bounded a
ends_bounded e = (ends_finite e).bounded

pub point_most : {k : ℕ} {x : Float} → Size k x → Ends k (point_i x)
point_most s = record { spans = record { low = s.within; high = s.within } }
