use mathlib.Core.Path.{◌≡◌}
use lib.ListN.{length}
use Rattle.room.specs.Rooms.{cell_at, counts_at}
use Rattle.cells.specs.Laws.{Meeting, Four}
use Rattle.cells.proofs.intersection.Given as goal

abbrev pub invariant-loop-i : goal.invariant-loop-i
invariant-loop-i l =
    Meeting l.t l.limit (cell_at l.initial.rest 0 (counts_at l.initial.held 0 l.faces)) l.src l.from l.corners l.j l.many l.s l.rest l.held l.o l.i
    × Four l.rest l.held l.spare l.slots l.initial.rest l.initial.held l.initial.spare l.initial.slots
    × (length l.face ≡ 384) × (length l.cap ≡ 3072) × (length l.flat ≡ 2048) × (length l.order ≡ 1024) × (length l.chain ≡ 2048)
