use mathlib.Core.Path.{refl}
use Rattle.finish.specs.Laws.{part_fits, part_bench, points_kept, places_kept, part_behind}
use Rattle.finish.proofs.finish_cell.Goals as goal

pub build-requires : goal.build-requires
build-requires c = record { fits = part_fits c.requires.space _ _ _ refl refl refl; bench = part_bench c.requires.space _ _ _ refl refl refl c.requires.bench }

pub shape_of-points : goal.shape_of-points
shape_of-points c = points_kept c.requires.space _ _ _ refl refl refl c.build.new.points c.build.auto.points

pub shape_of-places : goal.shape_of-places
shape_of-places c = places_kept c.requires.space _ _ _ refl refl refl c.build.new.places c.build.auto.places

pub shape_of-ends : goal.shape_of-ends
shape_of-ends c = c.build.auto.ends

pub shape_of-head : goal.shape_of-head
shape_of-head c = c.build.auto.head

pub shape_of-next : goal.shape_of-next
shape_of-next c = c.build.auto.next

pub shape_of-seen : goal.shape_of-seen
shape_of-seen c = c.build.auto.seen

pub shape_of-work : goal.shape_of-work
shape_of-work c = c.build.auto.work

pub shape_of-nodes : goal.shape_of-nodes
shape_of-nodes c = c.build.auto.nodes

pub shape_of-cuts : goal.shape_of-cuts
shape_of-cuts c = c.build.auto.cuts

pub returns : goal.returns
returns c = part_behind c.requires.space _ _ _ refl refl refl _ _ _ _ c.build.ensures
