use mathlib.Core.Path.{◌≡◌}
use lib.ListN.{length, take}
use Rattle.stack.specs.Stacks.{cells_at, Lies}
use Rattle.finish.specs.Laws.{Finishing, Alike}
use Rattle.finish.proofs.finish_cells.Given as goal

abbrev pub invariant-loop-j : goal.invariant-loop-j
invariant-loop-j l = record {
  lies : Lies l.limit (cells_at l.d 0 l.counts (take l.fn.s.cells l.sizes)) l.d l.counts l.sizes;
  many : l.fn.s.cells ≡ length (cells_at l.d 0 l.counts (take l.fn.s.cells l.sizes));
  going : Finishing l.t (cells_at l.d 0 l.counts (take l.fn.s.cells l.sizes)) l.initial.points l.initial.places l.initial.marks l.points l.places l.marks l.o l.f l.p l.q l.j;
  alike : Alike l.ends l.head l.next l.seen l.work l.nodes l.cuts l.initial.ends l.initial.head l.initial.next l.initial.seen l.initial.work l.initial.nodes l.initial.cuts;
}
