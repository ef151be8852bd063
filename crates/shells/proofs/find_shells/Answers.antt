use Rattle.shells.specs.Named.{spread_placed, spread_named}
use borrow.Author.Rules.{rules}
use Rattle.shells.proofs.find_shells.Goals as goal

pub name_facets-requires : goal.name_facets-requires
name_facets-requires c = search (rules, spread_placed)

pub returns : goal.returns
returns c = search (rules, spread_named)
