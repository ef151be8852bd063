use mathlib.Core.Path.{sym, subst}
use lib.ListN.{take}
use lib.Seq.{length-take-le}
use Rattle.groups.specs.Groups.{Within}
use Rattle.topology.specs.Laws.{one_is}
use native.Mathlib.Omega.{arith}
use borrow.Author.Rules.{rules}
use Rattle.topology.proofs.is_one.Goals as goal

pub slice_bounds-components-end : goal.slice_bounds-components-end
slice_bounds-components-end c = search (rules, length-take-le)

pub slice_bounds-components-end-3 : goal.slice_bounds-components-end-3
slice_bounds-components-end-3 c = search (rules, length-take-le)

pub slice_bounds-components-end-5 : goal.slice_bounds-components-end-5
slice_bounds-components-end-5 c = search (rules, length-take-le)

pub slice_bounds-components-end-7 : goal.slice_bounds-components-end-7
slice_bounds-components-end-7 c = search (rules, length-take-le)

pub slice_bounds-components-end-9 : goal.slice_bounds-components-end-9
slice_bounds-components-end-9 c = search (rules, length-take-le)

pub components-found-requires : goal.components-found-requires
components-found-requires c = let A = c.args in
    let e = length-take-le A.e A.ends.now c.requires.e_in_bounds.0 in
    let h = length-take-le A.n A.head.now c.requires.n_in_bounds.0 in
    let x = length-take-le A.e A.next.now c.requires.n_in_bounds.1 in
    let s = length-take-le A.n A.seen.now c.requires.n_in_bounds.2 in
    let w = length-take-le A.n A.work.now c.requires.n_in_bounds_2.0 in
    record { within = (subst (Within (take A.e A.ends.now)) (sym s) c.requires.e_in_bounds.1, omega (arith, h, s), omega (arith, e, x)); seen_in_bounds = (omega (arith, s, c.requires.n_in_bounds_2.2), omega (arith, s, w), omega (arith, s, c.requires.n_in_bounds_2.1)) }

pub returns : goal.returns
returns c =
    let A = c.args in
    one_is _ _ _ _ c.components-found.ensures.classes.many (length-take-le A.n A.seen.now c.requires.n_in_bounds.2)
