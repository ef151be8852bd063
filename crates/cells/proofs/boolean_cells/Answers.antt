use Rattle.cells.specs.Laws.{by_intersection, by_difference, by_union}
use Rattle.cells.proofs.boolean_cells.Goals as goal

pub intersection-requires : goal.intersection-requires
intersection-requires c = record { sits = (c.requires.sits.0, c.requires.sits.1); place = c.requires.place }

pub difference-requires : goal.difference-requires
difference-requires c = record { sits = (c.requires.sits.0, c.requires.sits.1); place = c.requires.place }

pub unite-requires : goal.unite-requires
unite-requires c = record { sits = c.requires.sits; place = c.requires.place }

pub shape_of-rest-in-Intersection : goal.shape_of-rest-in-Intersection
shape_of-rest-in-Intersection c = c.intersection.auto.rest

pub shape_of-held-in-Intersection : goal.shape_of-held-in-Intersection
shape_of-held-in-Intersection c = c.intersection.auto.held

pub shape_of-spare-in-Intersection : goal.shape_of-spare-in-Intersection
shape_of-spare-in-Intersection c = c.intersection.auto.spare

pub shape_of-slots-in-Intersection : goal.shape_of-slots-in-Intersection
shape_of-slots-in-Intersection c = c.intersection.auto.slots

pub shape_of-dst-in-Intersection : goal.shape_of-dst-in-Intersection
shape_of-dst-in-Intersection c = c.intersection.auto.dst

pub shape_of-counts-in-Intersection : goal.shape_of-counts-in-Intersection
shape_of-counts-in-Intersection c = c.intersection.auto.counts

pub shape_of-sizes-in-Intersection : goal.shape_of-sizes-in-Intersection
shape_of-sizes-in-Intersection c = c.intersection.auto.sizes

pub returns-in-Intersection : goal.returns-in-Intersection
returns-in-Intersection c = by_intersection _ _ _ _ _ _ _ _ _ c.in-Intersection.is c.intersection.ensures

pub shape_of-rest-in-Difference : goal.shape_of-rest-in-Difference
shape_of-rest-in-Difference c = c.difference.auto.rest

pub shape_of-held-in-Difference : goal.shape_of-held-in-Difference
shape_of-held-in-Difference c = c.difference.auto.held

pub shape_of-spare-in-Difference : goal.shape_of-spare-in-Difference
shape_of-spare-in-Difference c = c.difference.auto.spare

pub shape_of-slots-in-Difference : goal.shape_of-slots-in-Difference
shape_of-slots-in-Difference c = c.difference.auto.slots

pub shape_of-dst-in-Difference : goal.shape_of-dst-in-Difference
shape_of-dst-in-Difference c = c.difference.auto.dst

pub shape_of-counts-in-Difference : goal.shape_of-counts-in-Difference
shape_of-counts-in-Difference c = c.difference.auto.counts

pub shape_of-sizes-in-Difference : goal.shape_of-sizes-in-Difference
shape_of-sizes-in-Difference c = c.difference.auto.sizes

pub returns-in-Difference : goal.returns-in-Difference
returns-in-Difference c = by_difference _ _ _ _ _ _ _ _ _ c.in-Difference.is c.difference.ensures

pub shape_of-rest-in-Union : goal.shape_of-rest-in-Union
shape_of-rest-in-Union c = c.unite.auto.rest

pub shape_of-held-in-Union : goal.shape_of-held-in-Union
shape_of-held-in-Union c = c.unite.auto.held

pub shape_of-spare-in-Union : goal.shape_of-spare-in-Union
shape_of-spare-in-Union c = c.unite.auto.spare

pub shape_of-slots-in-Union : goal.shape_of-slots-in-Union
shape_of-slots-in-Union c = c.unite.auto.slots

pub shape_of-dst-in-Union : goal.shape_of-dst-in-Union
shape_of-dst-in-Union c = c.unite.auto.dst

pub shape_of-counts-in-Union : goal.shape_of-counts-in-Union
shape_of-counts-in-Union c = c.unite.auto.counts

pub shape_of-sizes-in-Union : goal.shape_of-sizes-in-Union
shape_of-sizes-in-Union c = c.unite.auto.sizes

pub returns-in-Union : goal.returns-in-Union
returns-in-Union c = by_union _ _ _ _ _ _ _ _ _ c.in-Union.is c.unite.ensures
