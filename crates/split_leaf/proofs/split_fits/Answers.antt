use Rattle.split_leaf.specs.Laws.{fits_large, fits_all}
use borrow.Author.Rules.{rules}
use Rattle.split_leaf.proofs.split_fits.Goals as goal

pub returns-then-limit-gt-ROOM : goal.returns-then-limit-gt-ROOM
returns-then-limit-gt-ROOM c = search (rules, fits_large)

pub returns : goal.returns
returns c = search (rules, fits_all)
