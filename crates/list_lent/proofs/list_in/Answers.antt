use Rattle.list_lent.specs.Laws.{lent_large, lent_short, lent_sizes, lent_counts, lent_corners, lent_floats, lent_list}
use borrow.Author.Rules.{rules}
use Rattle.list_lent.proofs.list_in.Goals as goal

pub returns-then-limit-gt-MOST : goal.returns-then-limit-gt-MOST
returns-then-limit-gt-MOST c = search (rules, lent_large)

pub returns-then-sizes-cells : goal.returns-then-sizes-cells
returns-then-sizes-cells c = search (rules, lent_short)

pub returns-then-limit-faces : goal.returns-then-limit-faces
returns-then-limit-faces c = search (rules, lent_sizes)

pub returns-then-counts-faces : goal.returns-then-counts-faces
returns-then-counts-faces c = search (rules, lent_counts)

pub returns-then-limit-corners : goal.returns-then-limit-corners
returns-then-limit-corners c = search (rules, lent_corners)

pub returns-then-d-faces : goal.returns-then-d-faces
returns-then-d-faces c = search (rules, lent_floats)

pub returns : goal.returns
returns c = search (rules, lent_list)
