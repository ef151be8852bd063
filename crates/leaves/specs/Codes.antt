-- How a leaf's answer is told in numbers. Definitions only.
use Rattle.interval.specs.declared.Interval.{Interval}
use Rattle.refusal.specs.Outcome.{Outcome}
use Rattle.std.specs.Prelude.{ℕ, List, Float, Ok, Err, Some, None, Option}
use Rattle.interval.specs.declared.Sign.{Sign}
use Rattle.interval.specs.declared.Sign.TheVariants as S
use Rattle.exact.specs.declared.Turn.{Turn}
use Rattle.exact.specs.declared.Turn.TheVariants as T
use Rattle.space.specs.declared.Closeness.{Closeness}
use Rattle.space.specs.declared.Closeness.TheVariants as C
use Rattle.side.specs.declared.Side.{Side}
use Rattle.side.specs.declared.Side.TheVariants as D
use Rattle.turns.specs.declared.Turn.{Turn as Bend}
use Rattle.turns.specs.declared.Turn.TheVariants as B
use Rattle.turns.specs.declared.Projected.{Projected}
use Rattle.lent.specs.Lent.{stored}

-- the ends of a reciprocal, or nothing
unfoldable pub inverted : List Float → Option Interval → List Float
inverted s (Some i) = stored s i
inverted s None = s

-- 0 zero, 1 positive, 2 negative, 3 none
abbrev pub sign_code : Sign → ℕ
sign_code S.Positive = 1
sign_code S.Negative = 2
sign_code S.Zero = 0
sign_code S.Unknown = 3

abbrev pub turn_code : Turn → ℕ
turn_code T.Positive = 1
turn_code T.Negative = 2
turn_code T.Zero = 0
turn_code T.None = 3

-- 1 near, 0 apart, or the number of the refusal
abbrev pub close_code : Outcome Closeness → ℕ
close_code (Ok C.Near) = 1
close_code (Ok C.Apart) = 0
close_code (Err r) = r.number

-- the code of the sign, or the number of the refusal
abbrev pub side_code : Outcome Side → ℕ
side_code (Ok D.Positive) = 1
side_code (Ok D.Negative) = 2
side_code (Ok D.Zero) = 0
side_code (Err r) = r.number

abbrev pub bend_code : Outcome Bend → ℕ
bend_code (Ok B.Positive) = 1
bend_code (Ok B.Negative) = 2
bend_code (Ok B.Zero) = 0
bend_code (Err r) = r.number

abbrev pub shadow : Float → Float → Float → Float → Projected
shadow xl xh yl yh = record { x = record { lo = xl; hi = xh }; y = record { lo = yl; hi = yh } }
