-- How large the ends of an interval are: at most n units in size, and what the stepped operations make of that. Assumes nothing.
use Rattle.std.specs.Prelude.{ℕ, ◌≤◌}
use Rattle.std.proofs.Common.{arith}
use Rattle.std.specs.Float.{binary64}
use Rattle.std.specs.Float.Ieee.{of_bits}
use Rattle.std.specs.Float.Ieee.Bits.{of_bits-fits}
use Rattle.interval.specs.declared.Interval.{Interval}
use Rattle.interval.specs.Ends.{zero}
use Rattle.interval.specs.Exact.{Finite}
use Rattle.tube_domain.specs.Within.{Within, within_more}

-- both ends are finite values of the format, and at most n units in size
pub record Spans (n : ℕ) (a : Interval) : Type 0 where
  pub low : Within n a.lo
  pub high : Within n a.hi

pub spans_more : {m n : ℕ} {a : Interval} → m ≤ n → Spans m a → Spans n a
spans_more h e = record { low = within_more h e.low; high = within_more h e.high }

pub spans_finite : {n : ℕ} {a : Interval} → Spans n a → Finite a
spans_finite e = record { lo_fits = e.low.held; hi_fits = e.high.held; bounded = record { lo_finite = e.low.bounded; hi_finite = e.high.bounded } }

pub zero_within : (n : ℕ) → Within n zero
unfolding of_bits
zero_within n = record { held = of_bits-fits binary64 0; bounded = tt; most = omega arith; least = omega arith }
