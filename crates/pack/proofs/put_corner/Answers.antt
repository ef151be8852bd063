use native.Mathlib.Omega.{arith}
use mathlib.Core.Path.{ap}
use lib.ListN.{length, length-set}
use lib.Seq.{length-sets}
use Rattle.pack.specs.Laws.{corner_stored}
use Rattle.pack.proofs.put_corner.Goals as goal

pub put_index-requires : goal.put_index-requires
put_index-requires c = simp length-set (omega arith)

pub shape_of-out : goal.shape_of-out
shape_of-out c = simp (length-sets, length-set) at (ap length c.put_index.ensures)

pub returns : goal.returns
returns c = corner_stored _ _ _ _ c.put_index.ensures
