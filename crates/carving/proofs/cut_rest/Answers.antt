use borrow.Author.Tests.{not-true, not-false}
use Rattle.carving.specs.Laws.{left_stays, left_nothing, left_cut, clip_inside}
use native.Mathlib.Omega.{arith}
use mathlib.Core.Path.{ap}
use mathlib.Core.Bool.{not}
use Rattle.carving.proofs.cut_rest.Goals as goal

pub returns-in_default : goal.returns-in_default
returns-in_default c = left_stays _ _ _ _ _ c.in_default.is

pub returns-then-not-some : goal.returns-then-not-some
returns-then-not-some c = left_nothing _ _ _ _ _ _ c.in-Ok.is (not-true _ (ap not c.if-not-some.true))

pub clip-p-requires : goal.clip-p-requires
clip-p-requires c =
    let H = c.requires.sits (not-false _ (ap not c.if-not-some.false)) in (
      H.given,
      record {
        face_fits = c.requires.place.2.face_fits;
        cap_fits = c.requires.place.2.cap_fits;
        place = omega (arith, c.requires.place.1.place);
        slots = omega (arith, c.requires.place.1.slots);
      },
      c.requires.place.2.hulls,
    )

pub keep-requires : goal.keep-requires
keep-requires c = (
  clip_inside _ _ _ _ _ _ _ _ _ _ _ _ _ c.clip-p.ensures (omega (arith, c.requires.place.1.place, c.clip-p.auto.dst)) (omega (arith, c.requires.place.1.slots, c.clip-p.auto.counts)),
  clip_inside _ _ _ _ _ _ _ _ _ _ _ _ _ c.clip-p.ensures c.requires.place.0.place c.requires.place.0.slots,
)

pub returns : goal.returns
returns c =
    left_cut _ _ _ _ _ _ _ _ _ _ _ _ _ _ c.in-Ok.is (not-false _ (ap not c.if-not-some.false)) c.requires.sits c.requires.place.1 c.requires.place.0 c.clip-p.ensures c.keep.ensures
