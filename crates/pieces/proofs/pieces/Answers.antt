use mathlib.Core.Path.{refl, ◌∙◌}
use Rattle.room.specs.Laws.{cell_faces}
use Rattle.stack.specs.Laws.{holds, places_on}
use Rattle.pieces.specs.Laws.{place_of, pieces_listed}
use native.Mathlib.Omega.{arith}
use Rattle.pieces.proofs.pieces.Goals as goal

pub both_planes-requires : goal.both_planes-requires
both_planes-requires c = (c.requires.sits.0, c.requires.sits.1, c.requires.sits.4, c.requires.in_bounds.0)

pub boolean_cells-list-requires : goal.boolean_cells-list-requires
boolean_cells-list-requires c = record { sits = c.requires.sits; place = (c.requires.in_bounds.1, place_of _ _ _ _ c.requires.in_bounds.3, c.requires.in_bounds.2) }

pub overflow_add-faces : goal.overflow_add-faces
overflow_add-faces c = omega (arith, c.requires.sits.0.few, c.requires.sits.4)

pub split_cells-requires : goal.split_cells-requires
split_cells-requires c = record { n_in_bounds = (omega (arith, c.requires.sits.0.few, c.requires.sits.4, c.requires.in_bounds.0, c.both_planes.auto.planes), holds _ _ _ _ _ _ c.boolean_cells-list.ensures, places_on _ _ _ _ _ _ _ c.requires.in_bounds.2 c.boolean_cells-list.auto.dst c.boolean_cells-list.auto.counts c.boolean_cells-list.auto.sizes); places = places_on _ _ _ _ _ _ _ c.requires.in_bounds.3 c.boolean_cells-list.auto.spare c.boolean_cells-list.auto.slots refl }

pub shape_of-planes : goal.shape_of-planes
shape_of-planes c = c.both_planes.auto.planes

pub shape_of-rest : goal.shape_of-rest
shape_of-rest c = c.boolean_cells-list.auto.rest

pub shape_of-held : goal.shape_of-held
shape_of-held c = c.boolean_cells-list.auto.held

pub shape_of-dst : goal.shape_of-dst
shape_of-dst c = c.split_cells.auto.dst ∙ c.boolean_cells-list.auto.dst

pub shape_of-counts : goal.shape_of-counts
shape_of-counts c = c.split_cells.auto.counts ∙ c.boolean_cells-list.auto.counts

pub shape_of-sizes : goal.shape_of-sizes
shape_of-sizes c = c.split_cells.auto.sizes ∙ c.boolean_cells-list.auto.sizes

pub shape_of-spare : goal.shape_of-spare
shape_of-spare c = c.split_cells.auto.spare ∙ c.boolean_cells-list.auto.spare

pub shape_of-slots : goal.shape_of-slots
shape_of-slots c = c.split_cells.auto.slots ∙ c.boolean_cells-list.auto.slots

pub shape_of-seats : goal.shape_of-seats
shape_of-seats c = c.split_cells.auto.seats

pub returns : goal.returns
returns c = pieces_listed _ _ _ _ _ _ _ _ _ _ _ _ _ _ _ _ _ (cell_faces _ _ _ _ _ c.requires.sits.0.given.listed) (cell_faces _ _ _ _ _ c.requires.sits.1.listed) c.requires.sits.0.few c.requires.sits.4 c.requires.in_bounds.0 c.both_planes.ensures c.boolean_cells-list.ensures c.split_cells.ensures
