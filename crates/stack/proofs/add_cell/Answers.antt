use mathlib.Core.Path.{refl}
use Rattle.room.specs.Laws.{cell_faces}
use Rattle.stack.specs.Laws.{numbers}
use Rattle.stack.specs.Steps.{listed_stays, whole_bound, whole_added, whole_refused}
use native.Mathlib.Omega.{arith}
use Rattle.stack.proofs.add_cell.Goals as goal

pub returns-in_default : goal.returns-in_default
returns-in_default c = listed_stays _ _ _ _ _ _ _ c.requires.holds.0 c.in_default.is

pub overflow_mul-at : goal.overflow_mul-at
overflow_mul-at c =
    let N = numbers _ _ _ _ _ _ c.requires.holds.0 in
    omega (arith, N.fit, N.wide, c.requires.holds.1.place, c.well_formed)

pub overflow_mul-at-2 : goal.overflow_mul-at-2
overflow_mul-at-2 c =
    let N = numbers _ _ _ _ _ _ c.requires.holds.0 in
    omega (arith, N.fit, N.wide, c.requires.holds.1.place, c.well_formed)

pub overflow_add-at : goal.overflow_add-at
overflow_add-at c =
    let N = numbers _ _ _ _ _ _ c.requires.holds.0 in
    omega (arith, N.fit, N.wide, c.requires.holds.1.place, c.well_formed)

pub left_cell-r-requires : goal.left_cell-r-requires
left_cell-r-requires c =
    let N = numbers _ _ _ _ _ _ c.requires.holds.0 in
    record {
      listed = c.requires.given.0.listed;
      within = c.requires.given.0.within;
      place = omega (arith, N.fit, N.wide, c.requires.holds.1.place);
      slots = omega (arith, N.fit, N.wide, c.requires.holds.1.slots);
    }

pub push-requires : goal.push-requires
push-requires c =
    let N = numbers _ _ _ _ _ _ c.requires.holds.0 in
    let F = cell_faces c.args.src.now c.args.from c.args.sizes.now c.args.j c.args.faces c.requires.given.0.listed in (
      N.fit,
      whole_bound _ _ _ _ _ _ _ _ _ _ _ _ c.requires.holds.0 c.in-Ok.is (omega (arith, F, c.requires.given.3)) c.left_cell-r.ensures.stored c.in-Ok-r.is c.requires.given.1,
      N.wide,
      omega (arith, N.fit, N.wide, N.some, c.requires.holds.1.seats),
    )

pub returns-in-Ok-r : goal.returns-in-Ok-r
returns-in-Ok-r c =
    let F = cell_faces c.args.src.now c.args.from c.args.sizes.now c.args.j c.args.faces c.requires.given.0.listed in
    whole_added _ _ _ _ _ _ _ _ _ _ _ _ c.requires.holds.0 c.in-Ok.is (omega (arith, F, c.requires.given.3)) c.left_cell-r.ensures.stored _ _ c.in-Ok-r.is (omega (arith, F, c.requires.given.2)) c.requires.given.1 c.requires.holds.1 refl refl c.push.ensures.value c.push.ensures.cells_after

pub returns-in-Err : goal.returns-in-Err
returns-in-Err c =
    let F = cell_faces c.args.src.now c.args.from c.args.sizes.now c.args.j c.args.faces c.requires.given.0.listed in
    whole_refused _ _ _ (record { faces = 0; corners = 0 }) _ _ _ _ _ _ _ _ c.requires.holds.0 c.in-Ok.is (omega (arith, F, c.requires.given.3)) c.left_cell-r.ensures.stored _ _ c.in-Err.is c.gone.ensures
