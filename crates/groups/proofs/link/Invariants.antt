use Rattle.groups.specs.Chain.{Linking}
use Rattle.groups.proofs.link.Given as goal

abbrev pub invariant-loop-e : goal.invariant-loop-e
invariant-loop-e l = Linking l.ends l.all l.initial.head l.initial.next l.head l.next l.e
