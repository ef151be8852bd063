use Prim.Native.Nat.{◌≤◌}
use lib.ListN.{length}
use native.Mathlib.Omega.{arith}
use Rattle.groups.specs.Groups.{roots_start, roots_step, roots_end}
use borrow.Author.Rules.{rules}
use Rattle.groups.proofs.all_roots.Goals as goal

pub loop-r-init : goal.loop-r-init
loop-r-init c = search (rules, roots_start)

pub loop-r-preserved : goal.loop-r-preserved
loop-r-preserved c = search (rules, roots_step)

pub returns : goal.returns
returns c =
    let h : length c.loop-r.seen ≤ c.loop-r.r = omega arith in
    search (rules, roots_end)
