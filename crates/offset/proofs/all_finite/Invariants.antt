use mathlib.Core.Path.{◌≡◌}
use mathlib.Core.Bool.{true}
use lib.ListN.{take, drop}
use Rattle.float.specs.Float.{finite}
use Rattle.lists.specs.Walks.{all}
use Rattle.offset.proofs.all_finite.Given as goal

abbrev pub invariant-loop-j : goal.invariant-loop-j
invariant-loop-j l = all finite l.fine (drop l.j (take l.n l.by)) ≡ all finite true (take l.n l.by)
