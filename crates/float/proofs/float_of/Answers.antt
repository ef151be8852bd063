use mathlib.Core.Path.{sym}
use native.Mathlib.Omega.{arith}
use lib.Ieee.{div, of_bits}
use Rattle.float.proofs.Facts.{plain, beyond}
use Rattle.float.proofs.float_of.Goals as goal

pub float_from_bits-result : goal.float_from_bits-result
float_from_bits-result c = plain _ (omega arith)

pub returns : goal.returns
unfolding div of_bits
returns c = sym (beyond _ c.if-b-le-INF_BITS.false)
