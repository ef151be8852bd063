use lib.Ieee.{div, of_bits}
use Rattle.space.proofs.Far.{reach_yes, reach_no}
use Rattle.space.proofs.reach_of.Goals as goal

pub returns-then-is_reach : goal.returns-then-is_reach
returns-then-is_reach c = reach_yes _ _ c.is_reach.ensures c.if-is_reach.true

pub returns : goal.returns
unfolding div of_bits
returns c = reach_no _ _ c.is_reach.ensures c.if-is_reach.false
