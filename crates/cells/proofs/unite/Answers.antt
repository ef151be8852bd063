use mathlib.Core.Path.{◌∙◌}
use Rattle.stack.specs.Laws.{holds, places_on}
use Rattle.cells.specs.Laws.{united}
use Rattle.cells.proofs.unite.Goals as goal

pub difference-list-requires : goal.difference-list-requires
difference-list-requires c = record { sits = (c.requires.sits.0, c.requires.sits.1); place = c.requires.place }

pub add_cell-requires : goal.add_cell-requires
add_cell-requires c = record { given = (c.requires.sits.1, c.requires.sits.2, c.requires.sits.3, c.requires.sits.4); holds = (holds _ _ _ _ _ _ c.difference-list.ensures, places_on _ _ _ _ _ _ _ c.requires.place.2 c.difference-list.auto.dst c.difference-list.auto.counts c.difference-list.auto.sizes) }

pub shape_of-rest : goal.shape_of-rest
shape_of-rest c = c.difference-list.auto.rest

pub shape_of-held : goal.shape_of-held
shape_of-held c = c.difference-list.auto.held

pub shape_of-spare : goal.shape_of-spare
shape_of-spare c = c.difference-list.auto.spare

pub shape_of-slots : goal.shape_of-slots
shape_of-slots c = c.difference-list.auto.slots

pub shape_of-dst : goal.shape_of-dst
shape_of-dst c = c.add_cell.auto.dst ∙ c.difference-list.auto.dst

pub shape_of-counts : goal.shape_of-counts
shape_of-counts c = c.add_cell.auto.counts ∙ c.difference-list.auto.counts

pub shape_of-sizes : goal.shape_of-sizes
shape_of-sizes c = c.add_cell.auto.cells ∙ c.difference-list.auto.sizes

pub returns : goal.returns
returns c = united _ _ _ _ _ _ _ _ _ _ _ _ c.difference-list.ensures c.add_cell.ensures
