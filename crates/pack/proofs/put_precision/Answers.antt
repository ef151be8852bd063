use native.Mathlib.Omega.{arith}
use mathlib.Core.Path.{ap, ◌∙◌}
use lib.ListN.{length, length-set}
use lib.Seq.{length-sets}
use Rattle.pack.specs.Laws.{precision_stored}
use Rattle.pack.proofs.put_precision.Goals as goal

pub put_float-requires : goal.put_float-requires
put_float-requires c = simp length-set (omega arith)

pub put_float-requires-2 : goal.put_float-requires-2
put_float-requires-2 c = omega (arith, simp (length-sets, length-set) at (ap length c.put_float.ensures))

pub shape_of-out : goal.shape_of-out
shape_of-out c = simp length-sets at (ap length c.put_float-2.ensures) ∙ simp (length-sets, length-set) at (ap length c.put_float.ensures)

pub returns : goal.returns
returns c = precision_stored _ _ _ _ _ c.put_float.ensures c.put_float-2.ensures
