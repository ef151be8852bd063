use mathlib.Core.Path.{refl, sym, ◌∙◌}
use Prim.Native.Nat.{ℕ, ◌+◌, ◌-◌, ◌*◌, ◌≤◌}
use lib.ListN.{length, get_or}
use Rattle.cell.specs.Laws.{ahead_inside}
use Rattle.cells.specs.Laws.{meeting_start, meeting_step, meeting_end, place_on}
use native.Mathlib.Omega.{arith}
use Rattle.cells.proofs.intersection.Goals as goal

pub loop-i-init : goal.loop-i-init
loop-i-init c = (
  meeting_start _ _ _ _ _ _ _ _ _ _ _ (record { upto = omega arith; within = c.requires.sits.1.within }) c.requires.sits.0 refl,
  record { rest = refl; held = refl; spare = refl; slots = refl },
  refl,
  refl,
  refl,
  refl,
  refl,
)

pub overflow_add-n : goal.overflow_add-n
overflow_add-n c = omega (arith, c.requires.sits.1.listed, c.loop-i-test.true, c.well_formed)

pub get_plane-plane-requires : goal.get_plane-plane-requires
get_plane-plane-requires c = let size : ℕ = (let A = c.args in get_or A.corners.now (A.j + c.loop-i.i) 0) in
    let inside : c.loop-i.o + 13 + 3 * size ≤ length c.args.src.now = ahead_inside _ _ _ _ _ _ c.requires.sits.1.listed c.loop-i-test.true c.loop-i.invariant.0.ahead in
    omega (arith, inside)

pub slice_bounds-cut_rest-end : goal.slice_bounds-cut_rest-end
slice_bounds-cut_rest-end c = sym c.loop-i.invariant.2

pub slice_bounds-cut_rest-end-in-loop-i : goal.slice_bounds-cut_rest-end-in-loop-i
slice_bounds-cut_rest-end-in-loop-i c = sym c.loop-i.invariant.3

pub slice_bounds-cut_rest-end-in-loop-i-2 : goal.slice_bounds-cut_rest-end-in-loop-i-2
slice_bounds-cut_rest-end-in-loop-i-2 c = sym c.loop-i.invariant.4

pub slice_bounds-cut_rest-end-in-loop-i-3 : goal.slice_bounds-cut_rest-end-in-loop-i-3
slice_bounds-cut_rest-end-in-loop-i-3 c = sym c.loop-i.invariant.5

pub slice_bounds-cut_rest-end-in-loop-i-4 : goal.slice_bounds-cut_rest-end-in-loop-i-4
slice_bounds-cut_rest-end-in-loop-i-4 c = sym c.loop-i.invariant.6

pub cut_rest-s-requires : goal.cut_rest-s-requires
cut_rest-s-requires c = let I = c.loop-i.invariant in
    record {
      sits = I.0.kept.sits;
      place = (
        place_on _ _ _ _ _ c.requires.place.0 I.1.rest I.1.held,
        place_on _ _ _ _ _ c.requires.place.1 I.1.spare I.1.slots,
        record { face_fits = omega (arith, I.2); cap_fits = omega (arith, I.3); hulls = record { flat_fits = omega (arith, I.4); order_fits = omega (arith, I.5); chain_fits = omega (arith, I.6) } },
      );
    }

pub overflow_add-o : goal.overflow_add-o
overflow_add-o c = let size : ℕ = (let A = c.args in get_or A.corners.now (A.j + c.loop-i.i) 0) in
    let inside : c.loop-i.o + 13 + 3 * size ≤ length c.args.src.now = ahead_inside _ _ _ _ _ _ c.requires.sits.1.listed c.loop-i-test.true c.loop-i.invariant.0.ahead in
    omega (arith, inside, c.well_formed)

pub overflow_mul-o : goal.overflow_mul-o
overflow_mul-o c = let size : ℕ = (let A = c.args in get_or A.corners.now (A.j + c.loop-i.i) 0) in
    let inside : c.loop-i.o + 13 + 3 * size ≤ length c.args.src.now = ahead_inside _ _ _ _ _ _ c.requires.sits.1.listed c.loop-i-test.true c.loop-i.invariant.0.ahead in
    omega (arith, inside, c.well_formed)

pub overflow_add-o-in-loop-i : goal.overflow_add-o-in-loop-i
overflow_add-o-in-loop-i c = let size : ℕ = (let A = c.args in get_or A.corners.now (A.j + c.loop-i.i) 0) in
    let inside : c.loop-i.o + 13 + 3 * size ≤ length c.args.src.now = ahead_inside _ _ _ _ _ _ c.requires.sits.1.listed c.loop-i-test.true c.loop-i.invariant.0.ahead in
    omega (arith, inside, c.well_formed)

pub loop-i-preserved : goal.loop-i-preserved
loop-i-preserved c =
    let I = c.loop-i.invariant in (
      meeting_step _ _ _ _ _ _ _ _ _ _ _ _ _ _ _ _ _ c.requires.sits.1.listed c.loop-i-test.true c.get_plane-plane.ensures c.cut_rest-s.ensures I.0,
      record { rest = c.cut_rest-s.auto.rest ∙ I.1.rest; held = c.cut_rest-s.auto.held ∙ I.1.held; spare = c.cut_rest-s.auto.spare ∙ I.1.spare; slots = c.cut_rest-s.auto.slots ∙ I.1.slots },
      c.cut_rest-s.auto.face ∙ I.2,
      c.cut_rest-s.auto.cap ∙ I.3,
      c.cut_rest-s.auto.flat ∙ I.4,
      c.cut_rest-s.auto.order ∙ I.5,
      c.cut_rest-s.auto.chain ∙ I.6,
    )

pub settle-requires : goal.settle-requires
settle-requires c = record { sits = c.loop-i.invariant.0.kept.sits; places = c.requires.place.2 }

pub shape_of-rest : goal.shape_of-rest
shape_of-rest c = c.loop-i.invariant.1.rest

pub shape_of-held : goal.shape_of-held
shape_of-held c = c.loop-i.invariant.1.held

pub shape_of-spare : goal.shape_of-spare
shape_of-spare c = c.loop-i.invariant.1.spare

pub shape_of-slots : goal.shape_of-slots
shape_of-slots c = c.loop-i.invariant.1.slots

pub shape_of-dst : goal.shape_of-dst
shape_of-dst c = c.settle.auto.dst

pub shape_of-counts : goal.shape_of-counts
shape_of-counts c = c.settle.auto.counts

pub shape_of-sizes : goal.shape_of-sizes
shape_of-sizes c = c.settle.auto.sizes

pub returns : goal.returns
returns c = meeting_end _ _ _ _ _ _ _ _ _ _ _ _ _ _ _ _ _ c.loop-i-test.false c.loop-i.invariant.0 c.settle.ensures
