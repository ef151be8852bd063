-- Whole numbers for exact statements: one natural number less another, so that nothing is rounded, divided or taken
-- away. Definitions only.
use Rattle.std.specs.Prelude.{ℕ, ◌+◌, ◌*◌, ◌≤◌, ◌<◌, Float}
use Rattle.float.specs.Exact.{plus, minus}

-- the number more - less
pub record Whole : Type 0 where
  pub more : ℕ
  pub less : ℕ

abbrev pub nought : Whole
nought = record { more = 0; less = 0 }

-- a finite f64, which is a whole number of units of 2 ^ -1074
abbrev pub units : Float → Whole
units x = record { more = plus x; less = minus x }

-- a + b, a - b, -a and a·b
abbrev pub sum : Whole → Whole → Whole
sum a b = record { more = a.more + b.more; less = a.less + b.less }

abbrev pub difference : Whole → Whole → Whole
difference a b = record { more = a.more + b.less; less = a.less + b.more }

abbrev pub opposite : Whole → Whole
opposite a = record { more = a.less; less = a.more }

abbrev pub product : Whole → Whole → Whole
product a b = record { more = a.more * b.more + a.less * b.less; less = a.more * b.less + a.less * b.more }

-- the same number in finer units, n of which make one
abbrev pub finer : ℕ → Whole → Whole
finer n a = record { more = a.more * n; less = a.less * n }

-- a < b, and a ≤ b
abbrev pub Below : Whole → Whole → Type 0
Below a b = a.more + b.less < b.more + a.less

abbrev pub NotAbove : Whole → Whole → Type 0
NotAbove a b = a.more + b.less ≤ b.more + a.less
