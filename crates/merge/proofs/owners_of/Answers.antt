use borrow.Author.Rules.{rules}
use Rattle.merge.specs.Laws.{owning_room, owning_step, owning_end}
use Rattle.merge.proofs.owners_of.Goals as goal

pub fill-requires : goal.fill-requires
fill-requires c =
    owning_room c.loop-i.invariant c.requires c.loop-i-test.true

pub overflow_add-at : goal.overflow_add-at
overflow_add-at c =
    let a = owning_room c.loop-i.invariant c.requires c.loop-i-test.true in
    search rules

pub loop-i-preserved : goal.loop-i-preserved
loop-i-preserved c =
    owning_step c.loop-i.invariant c.requires _ c.loop-i-test.true c.fill.ensures

pub returns : goal.returns
returns c = (owning_end c.loop-i.invariant c.requires c.loop-i-test.false)
