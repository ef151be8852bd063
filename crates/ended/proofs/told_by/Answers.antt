use native.Mathlib.Omega.{arith}
use Rattle.ended.specs.Laws.{told_fine, told_refused}
use Rattle.ended.proofs.told_by.Goals as goal

pub overflow_mul-result : goal.overflow_mul-result
overflow_mul-result c = omega (arith, c.requires)

pub returns-in-Ok : goal.returns-in-Ok
returns-in-Ok c = told_fine _ _ c.in-Ok.is

pub returns-in-Err : goal.returns-in-Err
returns-in-Err c = told_refused _ _ _ c.in-Err.is
