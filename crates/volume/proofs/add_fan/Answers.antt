use Rattle.volume.specs.Shell.{fanning_start, fanning_step, fanning_end, points_first}
use borrow.Author.Rules.{rules}
use Rattle.volume.proofs.add_fan.Goals as goal

pub vector-a-requires : goal.vector-a-requires
vector-a-requires c = search (rules, points_first)

pub loop-i-init : goal.loop-i-init
loop-i-init c = search (rules, fanning_start)

pub add_turn-total-requires : goal.add_turn-total-requires
add_turn-total-requires c = (c.requires.0, search rules)

pub loop-i-preserved : goal.loop-i-preserved
loop-i-preserved c = search (rules, fanning_step)

pub returns : goal.returns
returns c = search (rules, fanning_end)
