use mathlib.Core.Path.{sym, ap, ◌∙◌, subst}
use Prim.Native.Nat.{ℕ}
use mathlib.Core.Bool.{not}
use lib.Dec.{T}
use lib.Ieee.{binary64, nan_bits, of_bits}
use Rattle.float.proofs.Facts.{plain_back, bits_plain, next_nan, next_step, next_plain, yes, no}
use Rattle.float.proofs.next_up.Goals as goal

pub returns-then-is_nan : goal.returns-then-is_nan
returns-then-is_nan c = next_nan _ (cc)

pub next_bits-requires : goal.next_bits-requires
next_bits-requires c = plain_back _ (bits_plain _ (yes c.well_formed.0.1) (no (sym c.is_nan.ensures ∙ c.if-is_nan.false)))

pub float_from_bits-result : goal.float_from_bits-result
float_from_bits-result c =
    subst (λ (n : ℕ). T (not (nan_bits binary64 n))) (sym c.next_bits.ensures)
    (next_plain _ (yes c.well_formed.0.1) (sym c.is_nan.ensures ∙ c.if-is_nan.false))

pub returns : goal.returns
returns c = ap (of_bits binary64) c.next_bits.ensures ∙ next_step _ (sym c.is_nan.ensures ∙ c.if-is_nan.false)
