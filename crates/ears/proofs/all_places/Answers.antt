use borrow.Author.Rules.{rules}
use mathlib.Core.Path.{ap}
use native.Mathlib.Omega.{arith}
use Rattle.ears.specs.Places.{up_from}
use Rattle.ears.specs.Laws.{up_stored, up_is}
use Rattle.ears.proofs.all_places.Goals as goal

pub loop-i-init : goal.loop-i-init
unfolding up_from
loop-i-init c = (search rules, ap (λ o. o.at) c.none-out.ensures)

pub loop-i-preserved : goal.loop-i-preserved
loop-i-preserved c =
    (search rules, up_stored c.loop-i.out.at c.loop-i.i c.loop-i.invariant.1 (omega (arith, c.requires)))

pub returns : goal.returns
returns c =
    up_is c.loop-i.out.at c.loop-i.i c.args.n c.loop-i.invariant.1 (omega arith)
