use Rattle.topology.specs.Laws.{laid_start, laid_room, laid_next, laid_end, laid_within}
use borrow.Author.Rules.{rules}
use Rattle.topology.proofs.lay_corners.Goals as goal

pub loop-j-init : goal.loop-j-init
loop-j-init c = search (rules, laid_start)

pub put_corners-requires : goal.put_corners-requires
put_corners-requires c =
    laid_room c.loop-j.invariant c.requires.0 c.loop-j-test.true c.requires.2 c.requires.3

pub overflow_add-at : goal.overflow_add-at
overflow_add-at c =
    let r = laid_room c.loop-j.invariant c.requires.0 c.loop-j-test.true c.requires.2 c.requires.3 in
    search rules

pub loop-j-preserved : goal.loop-j-preserved
loop-j-preserved c = search (rules, laid_next)

pub returns : goal.returns
returns c = record { result_after = search (rules, laid_end); upper_bound = search (rules, laid_within) }
