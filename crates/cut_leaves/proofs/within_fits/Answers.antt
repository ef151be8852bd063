use Prim.Native.Nat.{◌-◌}
use Rattle.cut_leaves.proofs.Guards.{scan_start, scan_big, scan_over, scan_step, scan_end}
use borrow.Author.Rules.{rules}
use Rattle.cut_leaves.proofs.within_fits.Goals as goal

pub loop-i-init : goal.loop-i-init
loop-i-init c = search (rules, scan_start)

pub returns-then-n-gt128 : goal.returns-then-n-gt128
returns-then-n-gt128 c = search (rules, scan_big)

pub returns-then-m-o : goal.returns-then-m-o
returns-then-m-o c = search (rules, scan_over)

pub loop-i-preserved : goal.loop-i-preserved
loop-i-preserved c = search (rules, scan_step)

pub returns : goal.returns
returns c = search (rules, scan_end)
