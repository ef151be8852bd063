use lib.ListN.{length, length-set}
use lib.Seq.{get_or-set_same}
use Rattle.groups.specs.Groups.{within_inside, as_many, ready_net, ready_seen, finish, finish_cleared}
use mathlib.Core.Path.{sym, subst, ◌∙◌}
use Rattle.groups.specs.Chain.{Inside}
use Prim.Native.Nat.{◌*◌, ◌/◌}
use native.Mathlib.Omega.{arith}
use Rattle.groups.proofs.components.Goals as goal

pub chains-requires : goal.chains-requires
chains-requires c =
    let s = c in
    (subst (Inside s.args.ends.now (length s.args.ends.now / 2 * 2)) (sym s.requires.within.1) (within_inside s.args.ends.now (length s.args.seen.now) s.requires.within.0), omega (arith, s.requires.within.2))

pub all_roots-m-requires : goal.all_roots-m-requires
all_roots-m-requires c = let s = c in
    let a = s.args in
    let f = c.fill.ensures.after (λ y e. e) in
    let l = c.chains.ensures in
    let n = as_many a.ends.now a.seen.now _ f in
    record { net = (ready_net a.ends.now a.seen.now _ f a.head.now a.next.now _ _ s.requires.within.0 s.requires.within.1 s.requires.within.2 l, ready_seen a.ends.now a.seen.now _ f, get_or-set_same a.cuts.now 0 0 0 (omega (arith, s.requires.seen_in_bounds.0))); seen_in_bounds = (omega (arith, n, s.requires.seen_in_bounds.0, length-set a.cuts.now 0 0), omega (arith, n, s.requires.seen_in_bounds.1), omega (arith, n, s.requires.seen_in_bounds.2)) }

pub returns : goal.returns
returns c = let s = c in
    let a = s.args in
    let f = c.fill.ensures.after (λ y e. e) in
    let l = c.chains.ensures in
    let r = c.all_roots-m in
    record { classes = finish a.ends.now a.seen.now _ f a.nodes.now a.cuts.now _ _ _ r.ensures; scratch = finish_cleared _ _ _ _ _ _ _ _ _ _ _ _ l.size_h l.size_n (r.auto.seen ∙ as_many a.ends.now a.seen.now _ f) r.auto.work c.clear_four.ensures }
