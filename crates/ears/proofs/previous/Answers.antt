use borrow.Author.Rules.{rules}
use mathlib.Core.Path.{refl}
use Prim.Native.Nat.{◌+◌, ◌-◌}
use native.Mathlib.Nat.{mod-lt}
use Rattle.ears.proofs.previous.Goals as goal

pub returns : goal.returns
returns c = (refl, mod-lt (c.args.i + c.args.n - 1) (search rules))
