use borrow.Author.Rules.{rules}
use mathlib.Core.Path.{◌≡◌, ap}
use Prim.Native.Nat.{◌≤◌}
use native.Mathlib.Omega.{arith}
use lib.ListN.{length}
use Rattle.ears.specs.Laws.{past_low, kept_stored, kept_is}
use Rattle.ears.proofs.remove.Goals as goal

pub loop-j-init : goal.loop-j-init
loop-j-init c = (search rules, ap (λ o. o.at) c.none-out.ensures)

pub offset_bounds-a-k : goal.offset_bounds-a-k
offset_bounds-a-k c =
    omega (arith, c.past-k.ensures, past_low c.args.i c.loop-j.j, c.requires)

pub bounds-a-k : goal.bounds-a-k
bounds-a-k c =
    omega (arith, c.past-k.ensures, past_low c.args.i c.loop-j.j, c.requires)

pub loop-j-preserved : goal.loop-j-preserved
loop-j-preserved c = let full : c.args.a.n ≤ length c.args.a.at = (let k : length c.args.a.at ≡ 128 = c.well_formed.0.1.1.0.1.0.1 in omega (arith, c.requires)) in
    (search rules, kept_stored c.args.a.at c.args.a.n c.args.i c.requires.0 c.requires.1 full c.loop-j.out.at c.loop-j.j _ c.loop-j.invariant.1 c.loop-j-test.true c.past-k.ensures)

pub returns : goal.returns
returns c = let full : c.args.a.n ≤ length c.args.a.at = (let k : length c.args.a.at ≡ 128 = c.well_formed.0.1.1.0.1.0.1 in omega (arith, c.requires)) in
    kept_is c.args.a.at c.args.a.n c.args.i c.requires.0 c.requires.1 full c.loop-j.out.at c.loop-j.j c.loop-j.invariant.1 c.loop-j-test.false
