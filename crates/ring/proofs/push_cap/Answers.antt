use Rattle.std.specs.Prelude.{Err, ◌≡◌}
use Rattle.std.proofs.Common.{rules}
use Rattle.ring.specs.Laws.{cap_refused, cap_pushed}
use Rattle.ring.proofs.push_cap.Goals as goal

pub returns-in_err-caps : goal.returns-in_err-caps
returns-in_err-caps c =
    let told : c.from_residual.result ≡ Err c.in_err-caps.field-0.0 = search rules in
    cap_refused _ _ _ _ _ _ _ c.requires.0 c.add_point.ensures c.in_err-caps.was told

pub returns : goal.returns
returns c = cap_pushed _ _ _ _ _ _ c.requires.0 c.add_point.ensures c.in_ok-caps.was
