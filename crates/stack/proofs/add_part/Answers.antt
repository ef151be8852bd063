use mathlib.Core.Path.{refl}
use Rattle.stack.specs.Laws.{numbers}
use Rattle.stack.specs.Steps.{listed_stays, part_broad, cut_joined}
use native.Mathlib.Omega.{arith}
use Rattle.stack.proofs.add_part.Goals as goal

pub returns-in_default : goal.returns-in_default
returns-in_default c = listed_stays _ _ _ _ _ _ _ c.requires.holds.0 c.in_default.is

pub overflow_mul-at : goal.overflow_mul-at
overflow_mul-at c =
    let N = numbers _ _ _ _ _ _ c.requires.holds.0 in
    omega (arith, N.fit, N.wide, c.requires.holds.1.place, c.well_formed)

pub overflow_mul-at-2 : goal.overflow_mul-at-2
overflow_mul-at-2 c =
    let N = numbers _ _ _ _ _ _ c.requires.holds.0 in
    omega (arith, N.fit, N.wide, c.requires.holds.1.place, c.well_formed)

pub overflow_add-at : goal.overflow_add-at
overflow_add-at c =
    let N = numbers _ _ _ _ _ _ c.requires.holds.0 in
    omega (arith, N.fit, N.wide, c.requires.holds.1.place, c.well_formed)

pub clip-p-requires : goal.clip-p-requires
clip-p-requires c =
    let N = numbers _ _ _ _ _ _ c.requires.holds.0 in (
      c.requires.given.0,
      record {
        face_fits = c.requires.holds.2.face_fits;
        cap_fits = c.requires.holds.2.cap_fits;
        place = omega (arith, N.fit, N.wide, c.requires.holds.1.place);
        slots = omega (arith, N.fit, N.wide, c.requires.holds.1.slots);
      },
      c.requires.holds.2.hulls,
    )

pub join-requires : goal.join-requires
join-requires c =
    let N = numbers _ _ _ _ _ _ c.requires.holds.0 in (
      N.fit,
      part_broad _ _ _ _ _ _ _ _ _ _ _ c.clip-p.ensures c.requires.given.1,
      N.wide,
      omega (arith, N.fit, N.wide, N.some, c.requires.holds.1.seats),
    )

pub returns : goal.returns
returns c =
    cut_joined _ _ _ _ _ _ _ _ _ _ _ _ _ c.requires.holds.0 c.in-Ok.is c.clip-p.ensures _ _ _ refl c.requires.given.1 c.requires.holds.1 refl refl c.join.ensures.value c.join.ensures.cells_after
