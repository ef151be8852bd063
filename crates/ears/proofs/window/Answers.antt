use mathlib.Core.Path.{◌≡◌}
use Prim.Native.Nat.{◌≤◌}
use native.Mathlib.Omega.{arith}
use lib.ListN.{length}
use Rattle.ears.specs.Laws.{window_is}
use Rattle.ears.proofs.window.Goals as goal

pub returns : goal.returns
returns c =
    let k : length c.args.a.at ≡ 128 = c.well_formed.0.1.1.0.1.0.1 in
    let full : c.args.a.n ≤ length c.args.a.at = omega (arith, c.requires.1) in
    window_is c.args.a.at c.args.a.n c.args.i _ _ c.requires.0 full c.previous-j.ensures.0 c.after-k.ensures.0
