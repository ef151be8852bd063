use Prim.Native.Nat.{◌-◌}
use Rattle.list_lent.specs.Laws.{adding_start, adding_low, adding_high, adding_over, adding_step, adding_end}
use borrow.Author.Rules.{rules}
use Rattle.list_lent.proofs.total.Goals as goal

pub loop-i-init : goal.loop-i-init
loop-i-init c = search (rules, adding_start)

pub returns-then-c-low : goal.returns-then-c-low
returns-then-c-low c = search (rules, adding_low)

pub returns-then-high-c : goal.returns-then-high-c
returns-then-high-c c = search (rules, adding_high)

pub returns-then-most-sum : goal.returns-then-most-sum
returns-then-most-sum c = search (rules, adding_over)

pub loop-i-preserved : goal.loop-i-preserved
loop-i-preserved c = search (rules, adding_step)

pub returns : goal.returns
returns c = search (rules, adding_end)
