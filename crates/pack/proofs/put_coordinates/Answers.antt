use native.Mathlib.Omega.{arith}
use native.Mathlib.Numerals.{towards_suc}
use lib.ListN.{length-set}
use Rattle.pack.specs.Flat.{coordinates}
use Rattle.pack.proofs.put_coordinates.Goals as goal

pub bounds-out-at-2 : goal.bounds-out-at-2
bounds-out-at-2 c = simp length-set (omega arith)

pub bounds-out-at-3 : goal.bounds-out-at-3
bounds-out-at-3 c = simp length-set (omega arith)

pub returns : goal.returns
unfolding coordinates
returns c = simp towards_suc
