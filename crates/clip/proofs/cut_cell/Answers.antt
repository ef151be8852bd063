use Rattle.std.specs.Prelude.{◌≡◌, Ok, Err}
use mathlib.Core.Path.{subst}
use Rattle.std.specs.Result.{IfOk}
use Rattle.std.proofs.Common.{rules}
use native.Mathlib.Omega.{arith}
use Rattle.clip.specs.Clips.{Few}
use Rattle.clip.specs.Laws.{cell_cut, cell_uncut}
use Rattle.clip.proofs.cut_cell.Goals as goal

pub returns-in_err-s : goal.returns-in_err-s
returns-in_err-s c =
    let told : c.from_residual.result ≡ Err c.in_err-s.field-0.0 = search rules in
    cell_uncut _ _ _ _ _ _ _ _ _ _ _ _ _ c.cut_faces.ensures _ c.in_err-s.was told

pub close-requires : goal.close-requires
close-requires c =
    let few : Few c.args.limit c.in_ok-s.s = subst (λ x. IfOk x (Few c.args.limit)) c.in_ok-s.was c.cut_faces.ensures.few in
    (omega (arith, c.requires.1.cap_fits, c.cut_faces.auto.cap), c.requires.2, omega (arith, c.requires.1.place, c.cut_faces.auto.dst), omega (arith, c.requires.1.slots, c.cut_faces.auto.counts), few)

pub returns : goal.returns
returns c = cell_cut _ _ _ _ _ _ _ _ _ _ _ _ _ c.cut_faces.ensures _ _ _ c.in_ok-s.was c.close.ensures
