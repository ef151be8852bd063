use native.Mathlib.Omega.{arith}
use lib.ListN.{length-set}
use Rattle.pack.specs.Laws.{operation_stored}
use Rattle.pack.proofs.put_operation.Goals as goal

pub bounds-out-at-2 : goal.bounds-out-at-2
bounds-out-at-2 c = simp length-set (omega arith)

pub returns : goal.returns
returns c = operation_stored _ _ _ _ c.operation_byte.ensures
