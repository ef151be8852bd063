use mathlib.Core.Path.{◌≡◌}
use mathlib.Core.Bool.{true}
use lib.ListN.{drop}
use Rattle.lists.specs.Walks.{all}
use Rattle.topology.specs.Corners.{corners_at, paired}
use Rattle.topology.proofs.all_fit.Given as goal

abbrev pub invariant-loop-i : goal.invariant-loop-i
invariant-loop-i l = all (paired l.m (corners_at l.places l.nexts l.faces 0 l.c)) l.fine (drop l.i (corners_at l.places l.nexts l.faces 0 l.c)) ≡ all (paired l.m (corners_at l.places l.nexts l.faces 0 l.c)) true (corners_at l.places l.nexts l.faces 0 l.c)
