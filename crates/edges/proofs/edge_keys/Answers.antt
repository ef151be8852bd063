use Rattle.edges.specs.Rims.{rimmed_start, rimmed_step, rimmed_end, rimmed_room, rimmed_last}
use borrow.Author.Rules.{rules}
use Rattle.edges.proofs.edge_keys.Goals as goal

pub loop-x-init : goal.loop-x-init
loop-x-init c = search (rules, rimmed_start)

pub put_key-requires : goal.put_key-requires
put_key-requires c = search (rules, rimmed_room)

pub loop-x-preserved : goal.loop-x-preserved
loop-x-preserved c = search (rules, rimmed_step)

pub bounds-s-c : goal.bounds-s-c
bounds-s-c c = search (rules, rimmed_last)

pub returns : goal.returns
returns c = search (rules, rimmed_end)
