use Rattle.std.specs.Prelude.{Ok}
use mathlib.Core.Path.{ap, ◌∙◌}
use Rattle.carving.specs.Laws.{keep_nothing, keep_part, keep_refused, inside_part}
use native.Mathlib.Omega.{arith}
use Rattle.carving.proofs.keep.Goals as goal

pub overflow_mul-f : goal.overflow_mul-f
overflow_mul-f c = omega (arith, (inside_part _ _ _ _ _ (c.in-Ok.is ∙ ap Ok c.in-Some.is) c.requires.0).0, c.well_formed)

pub overflow_mul-n : goal.overflow_mul-n
overflow_mul-n c = omega (arith, (inside_part _ _ _ _ _ (c.in-Ok.is ∙ ap Ok c.in-Some.is) c.requires.0).0, c.well_formed)

pub overflow_add-f : goal.overflow_add-f
overflow_add-f c = omega (arith, (inside_part _ _ _ _ _ (c.in-Ok.is ∙ ap Ok c.in-Some.is) c.requires.0).0, c.well_formed)

pub copy_front-requires : goal.copy_front-requires
copy_front-requires c = ((inside_part _ _ _ _ _ (c.in-Ok.is ∙ ap Ok c.in-Some.is) c.requires.0).0, (inside_part _ _ _ _ _ (c.in-Ok.is ∙ ap Ok c.in-Some.is) c.requires.1).0)

pub copy_front-requires-in-Some : goal.copy_front-requires-in-Some
copy_front-requires-in-Some c = ((inside_part _ _ _ _ _ (c.in-Ok.is ∙ ap Ok c.in-Some.is) c.requires.0).1, (inside_part _ _ _ _ _ (c.in-Ok.is ∙ ap Ok c.in-Some.is) c.requires.1).1)

pub returns-in-None : goal.returns-in-None
returns-in-None c = keep_nothing _ _ _ _ _ (c.in-Ok.is ∙ ap Ok c.in-None.is)

pub returns-in-Some : goal.returns-in-Some
returns-in-Some c = keep_part _ _ _ _ _ _ _ _ _ (c.in-Ok.is ∙ ap Ok c.in-Some.is) c.copy_front.ensures c.copy_front-in-Some.ensures

pub returns-in-Err : goal.returns-in-Err
returns-in-Err c = keep_refused _ _ _ _ _ _ c.in-Err.is
