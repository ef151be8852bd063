use mathlib.Core.Path.{◌≡◌, refl}
use Prim.Native.Nat.{◌+◌, ◌-◌}
use native.Mathlib.Omega.{arith}
use lib.ListN.{length}
use Rattle.std.proofs.Common.{append_assoc, drop-drop}
use Rattle.std.proofs.lemmas.List.Edits.{sets-eq}
use Rattle.lines.proofs.put.Goals as goal

pub returns-clause-out_after : goal.returns-clause-out_after
returns-clause-out_after c =
    let k : c.args.at + length c.args.text.now - c.args.at ≡ length c.args.text.now = omega arith in
    let e = sets-eq c.args.text.now c.args.out.now c.args.at c.requires in
    rw (k, c.copy_from_slice.ensures.after, e, drop-drop, append_assoc) refl
