use Rattle.groups.specs.Chain.{around}
use Rattle.groups.specs.Groups.{Roots}
use Rattle.groups.proofs.all_roots.Given as goal

abbrev pub invariant-loop-r : goal.invariant-loop-r
invariant-loop-r l = Roots (around l.ends l.all) 0 l.initial.seen l.initial.work l.initial.nodes l.initial.cuts l.seen l.work l.nodes l.cuts l.m l.r
