use mathlib.Core.Path.{refl, ◌∙◌}
use Rattle.stack.specs.Laws.{work_on}
use Rattle.carving.specs.Laws.{carved}
use Rattle.carving.proofs.carve_cell.Goals as goal

pub add_part-out-requires : goal.add_part-out-requires
add_part-out-requires c = record { given = (c.requires.sits.0.given, c.requires.sits.0.wide); holds = (c.requires.sits.1, c.requires.place.2, c.requires.place.3) }

pub cut_rest-left-requires : goal.cut_rest-left-requires
cut_rest-left-requires c = record { sits = (λ e. c.requires.sits.0); place = (c.requires.place.0, c.requires.place.1, work_on _ _ _ _ _ _ _ _ _ _ c.requires.place.3 c.add_part-out.auto.face c.add_part-out.auto.cap c.add_part-out.auto.flat c.add_part-out.auto.order c.add_part-out.auto.chain) }

pub shape_of-rest : goal.shape_of-rest
shape_of-rest c = c.cut_rest-left.auto.rest

pub shape_of-held : goal.shape_of-held
shape_of-held c = c.cut_rest-left.auto.held

pub shape_of-spare : goal.shape_of-spare
shape_of-spare c = c.cut_rest-left.auto.spare

pub shape_of-slots : goal.shape_of-slots
shape_of-slots c = c.cut_rest-left.auto.slots

pub shape_of-dst : goal.shape_of-dst
shape_of-dst c = c.add_part-out.auto.dst

pub shape_of-counts : goal.shape_of-counts
shape_of-counts c = c.add_part-out.auto.counts

pub shape_of-sizes : goal.shape_of-sizes
shape_of-sizes c = c.add_part-out.auto.cells

pub shape_of-face : goal.shape_of-face
shape_of-face c = c.cut_rest-left.auto.face ∙ c.add_part-out.auto.face

pub shape_of-cap : goal.shape_of-cap
shape_of-cap c = c.cut_rest-left.auto.cap ∙ c.add_part-out.auto.cap

pub shape_of-flat : goal.shape_of-flat
shape_of-flat c = c.cut_rest-left.auto.flat ∙ c.add_part-out.auto.flat

pub shape_of-order : goal.shape_of-order
shape_of-order c = c.cut_rest-left.auto.order ∙ c.add_part-out.auto.order

pub shape_of-chain : goal.shape_of-chain
shape_of-chain c = c.cut_rest-left.auto.chain ∙ c.add_part-out.auto.chain

pub returns : goal.returns
returns c = record { ready = (carved _ _ _ _ _ _ _ _ _ _ _ _ _ _ _ _ _ _ c.add_part-out.ensures c.cut_rest-left.ensures refl refl).0; sizes_after = (carved _ _ _ _ _ _ _ _ _ _ _ _ _ _ _ _ _ _ c.add_part-out.ensures c.cut_rest-left.ensures refl refl).1 }
