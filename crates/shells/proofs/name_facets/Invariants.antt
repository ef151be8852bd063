use Rattle.shells.specs.Named.{Naming}
use Rattle.shells.proofs.name_facets.Given as goal

abbrev pub invariant-loop-i : goal.invariant-loop-i
invariant-loop-i l = Naming l.faces l.initial.nodes l.nodes l.n l.i
