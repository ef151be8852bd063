use mathlib.Core.Path.{sym, subst}
use Prim.Native.Nat.{◌+◌}
use lib.ListN.{set}
use Rattle.stack.specs.Laws.{Copied, copied_start, copied_step, copied_end}
use Rattle.stack.proofs.copy_front.Goals as goal

pub loop-i-init : goal.loop-i-init
loop-i-init g c = copied_start _ _ _

pub loop-i-preserved : goal.loop-i-preserved
loop-i-preserved g c =
    subst (λ z. Copied c.args.dst.now c.args.src.now c.args.n (set c.loop-i.dst c.loop-i.i z) (c.loop-i.i + 1)) (sym c.index-src-i.is)
    (copied_step _ _ _ _ _ c.index-src-i.result c.requires.0 c.loop-i-test.true c.loop-i.invariant)

pub returns : goal.returns
returns g c = copied_end _ _ _ _ _ c.loop-i-test.false c.loop-i.invariant
