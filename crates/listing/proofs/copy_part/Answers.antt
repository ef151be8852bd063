use Rattle.listing.specs.Appended.{copying_start, copying_size, copying_room, copying_step, copying_end}
use borrow.Author.Rules.{rules}
use Rattle.listing.proofs.copy_part.Goals as goal

pub loop-i-init : goal.loop-i-init
loop-i-init c = search (rules, copying_start)

pub bounds-out-at : goal.bounds-out-at
bounds-out-at c = search (rules, copying_room)

pub loop-i-preserved : goal.loop-i-preserved
loop-i-preserved c = search (rules, copying_step)

pub shape_of-out : goal.shape_of-out
shape_of-out c = search (rules, copying_size)

pub returns : goal.returns
returns c = search (rules, copying_end)
