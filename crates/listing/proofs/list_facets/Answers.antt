use Rattle.keys.specs.Rows.{row_up}
use Rattle.listing.specs.Listed.{part_three, last_in, facets_listed}
use borrow.Author.Rules.{rules}
use Rattle.listing.proofs.list_facets.Goals as goal

pub copy_three-requires : goal.copy_three-requires
copy_three-requires c = (search (rules, row_up), search (rules, part_three), search (rules, last_in), search rules)

pub returns : goal.returns
returns c = search (rules, facets_listed)
