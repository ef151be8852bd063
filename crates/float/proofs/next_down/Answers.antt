use mathlib.Core.Path.{sym, ap, ◌∙◌, subst}
use Prim.Native.Nat.{ℕ}
use mathlib.Core.Bool.{not}
use lib.Dec.{T}
use lib.Ieee.{binary64, nan_bits, of_bits}
use Rattle.float.proofs.Facts.{yes, no}
use Rattle.float.proofs.Downs.{down_nan, down_plain, down_step}
use Rattle.float.proofs.next_down.Goals as goal

pub returns-then-is_nan : goal.returns-then-is_nan
returns-then-is_nan c = down_nan _ (cc)

pub float_from_bits-result : goal.float_from_bits-result
float_from_bits-result c =
    subst (λ (n : ℕ). T (not (nan_bits binary64 n))) (sym c.last_bits.ensures)
    (down_plain _ (record { held = yes c.well_formed.0.1; real = no (sym c.is_nan.ensures ∙ c.if-is_nan.false) }))

pub returns : goal.returns
returns c =
    ap (of_bits binary64) c.last_bits.ensures
    ∙ down_step _ (record { held = yes c.well_formed.0.1; real = no (sym c.is_nan.ensures ∙ c.if-is_nan.false) })
