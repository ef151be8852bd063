use mathlib.Core.Path.{sym, ap, ◌∙◌}
use lib.Ieee.{binary64, to_bits}
use Rattle.float.proofs.Facts.{is_nan_lem}
use Rattle.float.proofs.bits_of.Goals as goal

pub returns-then-is_nan : goal.returns-then-is_nan
unfolding to_bits
returns-then-is_nan c = sym (ap (to_bits binary64) (is_nan_lem _ (sym c.is_nan.ensures ∙ c.if-is_nan.true)))
