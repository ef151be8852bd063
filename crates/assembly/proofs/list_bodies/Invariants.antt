use Rattle.interfaces.specs.Facets.{facets_of}
use Rattle.cavities.specs.Steps.{volume_of}
use Rattle.assembly.specs.Loop.{Walking, Alike, Sized}
use Rattle.assembly.proofs.list_bodies.Given as goal

abbrev pub invariant-loop-i : goal.invariant-loop-i
invariant-loop-i l =
    Walking (volume_of l.points l.v l.starts) (facets_of l.v l.starts l.owners l.f) l.cells l.cuts l.g l.initial.out l.initial.sizes l.initial.shells l.out l.sizes l.shells l.m l.i
    × Alike l.initial.faces l.initial.d l.initial.k l.initial.s l.initial.ord l.initial.ends l.initial.nodes l.initial.marks l.faces l.d l.k l.s l.ord l.ends l.nodes l.marks
    × Sized l.initial.out l.initial.sizes l.initial.shells l.out l.sizes l.shells
