use borrow.Author.Rules.{rules}
use Rattle.keys.specs.Rows.{row_up}
use Rattle.listing.proofs.row_size.Goals as goal

pub overflow_sub-result : goal.overflow_sub-result
overflow_sub-result c = search (rules, row_up)
