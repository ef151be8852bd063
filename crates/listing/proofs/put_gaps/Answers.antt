use Rattle.listing.specs.Appended.{gapping_start, gapping_size, gapping_room, gapping_step, gapping_end}
use borrow.Author.Rules.{rules}
use Rattle.listing.proofs.put_gaps.Goals as goal

pub loop-i-init : goal.loop-i-init
loop-i-init c = search (rules, gapping_start)

pub bounds-out-at : goal.bounds-out-at
bounds-out-at c = search (rules, gapping_room)

pub loop-i-preserved : goal.loop-i-preserved
loop-i-preserved c = search (rules, gapping_step)

pub shape_of-out : goal.shape_of-out
shape_of-out c = search (rules, gapping_size)

pub returns : goal.returns
returns c = search (rules, gapping_end)
