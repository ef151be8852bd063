use Rattle.std.specs.Prelude.{Err, ◌≡◌}
use Rattle.std.proofs.Common.{rules}
use Rattle.clip.specs.Laws.{clip_refused, clip_on}
use Rattle.clip.proofs.clip.Goals as goal

pub returns-in_err-s : goal.returns-in_err-s
returns-in_err-s c =
    let told : c.from_residual.result ≡ Err c.in_err-s.field-0.0 = search rules in
    clip_refused _ _ _ _ _ _ _ _ _ _ _ c.sign_cell.ensures c.in_err-s.was told

pub returns : goal.returns
returns c =
    clip_on _ _ _ _ _ _ _ _ _ _ _ _ _ c.sign_cell.ensures c.in_ok-s.was c.clip_by.ensures
