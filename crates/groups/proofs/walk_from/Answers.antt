use lib.ListN.{set, length-set}
use Rattle.sums.specs.Sum.{open_le}
use Rattle.groups.specs.Chain.{around}
use Rattle.groups.specs.Walk.{going_start, going_turn, going_stop, opened, root_room}
use borrow.Author.Rules.{rules}
use native.Mathlib.Omega.{arith}
use Rattle.groups.proofs.walk_from.Goals as goal

pub loop-top-init : goal.loop-top-init
loop-top-init c =
    let s = c in
    let a = s.args in
    let z = opened a.seen.now a.root s.requires.root_in_bounds.0 s.requires.root_in_bounds.1 in
    going_start (around a.ends.now a.all) (set a.seen.now a.root 1) (set a.work.now 0 a.root) a.nodes.now 1 a.at
    (omega (arith, z, open_le a.seen.now, length-set a.seen.now a.root 1))
    (root_room a.seen.now a.work.now a.root s.requires.root_in_bounds.0 s.requires.root_in_bounds.1 s.requires.root_in_bounds.2)
    (omega (arith, z, s.requires.root_in_bounds.3))

pub loop-top-preserved : goal.loop-top-preserved
loop-top-preserved c = search (rules, going_turn)

pub returns : goal.returns
returns c = search (rules, going_stop)
