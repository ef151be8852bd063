use mathlib.Core.Path.{◌≡◌}
use lib.ListN.{length}
use Rattle.refusal.specs.Outcome.{then}
use Rattle.stack.specs.Stacks.{list_at}
use Rattle.splits.specs.Planes.{split_all, planes_at}
use Rattle.splits.specs.Laws.{Cutting, Three}
use Rattle.splits.proofs.split_cells.Given as goal

abbrev pub invariant-loop-i : goal.invariant-loop-i
invariant-loop-i l =
    Cutting l.t l.limit l.planes l.n (then (list_at l.initial.s l.initial.dst l.initial.counts l.initial.sizes) (split_all l.t l.limit (planes_at l.planes 0 l.n))) l.s l.dst l.counts l.sizes l.i × Three l.dst l.counts l.sizes l.initial.dst l.initial.counts l.initial.sizes × Three l.spare l.slots l.seats l.initial.spare l.initial.slots l.initial.seats
    × (length l.face ≡ 384) × (length l.cap ≡ 3072) × (length l.flat ≡ 2048) × (length l.order ≡ 1024) × (length l.chain ≡ 2048)
