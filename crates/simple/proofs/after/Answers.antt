use mathlib.Core.Path.{refl}
use Prim.Native.Nat.{◌+◌}
use native.Mathlib.Nat.{mod-lt}
use borrow.Author.Rules.{rules}
use Rattle.simple.proofs.after.Goals as goal

pub returns : goal.returns
returns c = (refl, mod-lt (c.args.i + 1) (search rules))
