use Rattle.cells.specs.Laws.{begun_fine, begun_refused}
use Rattle.cells.proofs.begun.Goals as goal

pub returns-in-Ok : goal.returns-in-Ok
returns-in-Ok c = begun_fine _ _ c.empty.ensures c.in-Ok.is

pub returns-in-Err : goal.returns-in-Err
returns-in-Err c = begun_refused _ _ _ c.gone.ensures c.in-Err.is
