use Rattle.stack.specs.Laws.{holds, places_on}
use Rattle.splits.specs.Laws.{list_carried}
use Rattle.splits.proofs.split_back.Goals as goal

pub split_list-s-requires : goal.split_list-s-requires
split_list-s-requires c = record { standing = c.requires.standing.0; places = (c.requires.places.0, c.requires.places.1) }

pub copy_list-requires : goal.copy_list-requires
copy_list-requires c = (holds _ _ _ _ _ _ c.split_list-s.ensures, places_on _ _ _ _ _ _ _ c.requires.places.0 c.split_list-s.auto.dst c.split_list-s.auto.counts c.split_list-s.auto.sizes, c.requires.standing.1)

pub shape_of-dst : goal.shape_of-dst
shape_of-dst c = c.copy_list.auto.dst

pub shape_of-counts : goal.shape_of-counts
shape_of-counts c = c.copy_list.auto.counts

pub shape_of-sizes : goal.shape_of-sizes
shape_of-sizes c = c.copy_list.auto.sizes

pub shape_of-spare : goal.shape_of-spare
shape_of-spare c = c.split_list-s.auto.dst

pub shape_of-slots : goal.shape_of-slots
shape_of-slots c = c.split_list-s.auto.counts

pub shape_of-seats : goal.shape_of-seats
shape_of-seats c = c.split_list-s.auto.sizes

pub shape_of-face : goal.shape_of-face
shape_of-face c = c.split_list-s.auto.face

pub shape_of-cap : goal.shape_of-cap
shape_of-cap c = c.split_list-s.auto.cap

pub shape_of-flat : goal.shape_of-flat
shape_of-flat c = c.split_list-s.auto.flat

pub shape_of-order : goal.shape_of-order
shape_of-order c = c.split_list-s.auto.order

pub shape_of-chain : goal.shape_of-chain
shape_of-chain c = c.split_list-s.auto.chain

pub returns : goal.returns
returns c = list_carried _ _ _ _ _ _ _ _ _ c.split_list-s.ensures c.copy_list.ensures
