use Rattle.carving.specs.Laws.{end_stays, end_fine, end_refused}
use Rattle.carving.proofs.end.Goals as goal

pub returns-in_default : goal.returns-in_default
returns-in_default c = end_stays _ _ _ _ c.in_default.is

pub returns-in-Ok-w : goal.returns-in-Ok-w
returns-in-Ok-w c = end_fine _ _ _ c.in-Ok.is c.in-Ok-w.is

pub returns-in-Err : goal.returns-in-Err
returns-in-Err c = end_refused _ _ _ _ _ c.in-Ok.is c.in-Err.is c.gone.ensures
