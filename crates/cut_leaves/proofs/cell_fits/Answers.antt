use Rattle.cut_leaves.proofs.Guards.{cell_unlisted, cell_cut, cell_behind, cell_within}
use borrow.Author.Rules.{rules}
use Rattle.cut_leaves.proofs.cell_fits.Goals as goal

pub returns-then-listed-j : goal.returns-then-listed-j
returns-then-listed-j c = search (rules, cell_unlisted)

pub returns-then-listed-j-2 : goal.returns-then-listed-j-2
returns-then-listed-j-2 c = search (rules, cell_cut)

pub returns-then-m-from : goal.returns-then-m-from
returns-then-m-from c = search (rules, cell_behind)

pub returns : goal.returns
returns c = search (rules, cell_within)
