use Rattle.stack.specs.Steps.{listed_stays}
use Rattle.splits.specs.Laws.{list_stands, plane_made, plane_refused}
use Rattle.splits.proofs.split_plane.Goals as goal

pub returns-in_default : goal.returns-in_default
returns-in_default c = listed_stays _ _ _ _ _ _ _ c.requires.holds.0 c.in_default.is

pub split_back-requires : goal.split_back-requires
split_back-requires c = record { standing = (list_stands _ _ _ _ _ c.requires.holds.0 c.in-Ok.is, c.requires.holds.1); places = c.requires.places }

pub shape_of-dst : goal.shape_of-dst
shape_of-dst c = c.split_back.auto.dst

pub shape_of-counts : goal.shape_of-counts
shape_of-counts c = c.split_back.auto.counts

pub shape_of-sizes : goal.shape_of-sizes
shape_of-sizes c = c.split_back.auto.sizes

pub shape_of-spare : goal.shape_of-spare
shape_of-spare c = c.split_back.auto.spare

pub shape_of-slots : goal.shape_of-slots
shape_of-slots c = c.split_back.auto.slots

pub shape_of-seats : goal.shape_of-seats
shape_of-seats c = c.split_back.auto.seats

pub shape_of-face : goal.shape_of-face
shape_of-face c = c.split_back.auto.face

pub shape_of-cap : goal.shape_of-cap
shape_of-cap c = c.split_back.auto.cap

pub shape_of-flat : goal.shape_of-flat
shape_of-flat c = c.split_back.auto.flat

pub shape_of-order : goal.shape_of-order
shape_of-order c = c.split_back.auto.order

pub shape_of-chain : goal.shape_of-chain
shape_of-chain c = c.split_back.auto.chain

pub returns-in-Ok-o : goal.returns-in-Ok-o
returns-in-Ok-o c = plane_made _ _ _ _ _ c.requires.holds.0 c.in-Ok.is _ _ _ _ _ _ _ _ c.opposite-o.ensures c.in-Ok-o.is c.split_back.ensures

pub returns-in-Err : goal.returns-in-Err
returns-in-Err c = plane_refused _ _ _ _ _ c.requires.holds.0 c.in-Ok.is _ _ _ _ _ c.opposite-o.ensures c.in-Err.is c.gone.ensures
