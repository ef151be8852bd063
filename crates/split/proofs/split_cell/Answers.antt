use mathlib.Core.Path.{◌∙◌}
use Rattle.stack.specs.Laws.{holds, places_on, work_on}
use Rattle.split.specs.Laws.{split_listed}
use Rattle.split.proofs.split_cell.Goals as goal

pub add_part-below-requires : goal.add_part-below-requires
add_part-below-requires c = record { given = c.requires.given; holds = c.requires.holds }

pub add_part-all-requires : goal.add_part-all-requires
add_part-all-requires c = record {
  given = c.requires.given;
  holds = (
    holds _ _ _ _ _ _ c.add_part-below.ensures,
    places_on _ _ _ _ _ _ _ c.requires.holds.1 c.add_part-below.auto.dst c.add_part-below.auto.counts c.add_part-below.auto.cells,
    work_on _ _ _ _ _ _ _ _ _ _ c.requires.holds.2 c.add_part-below.auto.face c.add_part-below.auto.cap c.add_part-below.auto.flat c.add_part-below.auto.order c.add_part-below.auto.chain,
  );
}

pub shape_of-dst : goal.shape_of-dst
shape_of-dst c = c.add_part-all.auto.dst ∙ c.add_part-below.auto.dst

pub shape_of-counts : goal.shape_of-counts
shape_of-counts c = c.add_part-all.auto.counts ∙ c.add_part-below.auto.counts

pub shape_of-sizes : goal.shape_of-sizes
shape_of-sizes c = c.add_part-all.auto.cells ∙ c.add_part-below.auto.cells

pub shape_of-face : goal.shape_of-face
shape_of-face c = c.add_part-all.auto.face ∙ c.add_part-below.auto.face

pub shape_of-cap : goal.shape_of-cap
shape_of-cap c = c.add_part-all.auto.cap ∙ c.add_part-below.auto.cap

pub shape_of-flat : goal.shape_of-flat
shape_of-flat c = c.add_part-all.auto.flat ∙ c.add_part-below.auto.flat

pub shape_of-order : goal.shape_of-order
shape_of-order c = c.add_part-all.auto.order ∙ c.add_part-below.auto.order

pub shape_of-chain : goal.shape_of-chain
shape_of-chain c = c.add_part-all.auto.chain ∙ c.add_part-below.auto.chain

pub returns : goal.returns
returns c = split_listed _ _ _ _ _ _ _ _ _ _ _ _ _ _ _ _ _ _ c.add_part-below.ensures c.add_part-all.ensures c.within_budget.ensures
