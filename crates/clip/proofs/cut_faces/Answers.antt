use Rattle.std.specs.Prelude.{Err, ◌≡◌}
use Rattle.std.proofs.Common.{rules}
use Prim.Native.Nat.{ℕ, ◌+◌, ◌-◌, ◌*◌, ◌≤◌}
use native.Mathlib.Omega.{arith}
use lib.ListN.{length, get_or}
use Rattle.cell.specs.Laws.{ahead_inside}
use Rattle.clip.specs.Laws.{cutting_start, cutting_step, cutting_stop, cutting_end}
use Rattle.clip.proofs.cut_faces.Goals as goal

pub loop-i-init : goal.loop-i-init
loop-i-init c = cutting_start _ _ _ _ _ _ _ _ _ _ _ _ _ _ c.requires.0.within

pub cut_face-requires : goal.cut_face-requires
cut_face-requires c = let size : ℕ = (let A = c.args in get_or A.sizes.now (A.j + c.loop-i.i) 0) in
    let inside : c.loop-i.o + 13 + 3 * size ≤ length c.args.src.now = ahead_inside _ _ _ _ _ _ c.requires.0.listed c.loop-i-test.true c.loop-i.invariant.ahead in
    let I = c.loop-i.invariant in (
      inside,
      record {
        face_fits = omega (arith, c.requires.1.face_fits, I.face_size);
        cap_fits = omega (arith, c.requires.1.cap_fits, I.cap_size);
        place = omega (arith, c.requires.1.place, I.size);
        slots = omega (arith, c.requires.1.slots, I.slots);
      },
      I.few,
    )

pub overflow_add-o : goal.overflow_add-o
overflow_add-o c = let size : ℕ = (let A = c.args in get_or A.sizes.now (A.j + c.loop-i.i) 0) in
    let inside : c.loop-i.o + 13 + 3 * size ≤ length c.args.src.now = ahead_inside _ _ _ _ _ _ c.requires.0.listed c.loop-i-test.true c.loop-i.invariant.ahead in
    omega (arith, inside, c.well_formed)

pub overflow_mul-o : goal.overflow_mul-o
overflow_mul-o c = let size : ℕ = (let A = c.args in get_or A.sizes.now (A.j + c.loop-i.i) 0) in
    let inside : c.loop-i.o + 13 + 3 * size ≤ length c.args.src.now = ahead_inside _ _ _ _ _ _ c.requires.0.listed c.loop-i-test.true c.loop-i.invariant.ahead in
    omega (arith, inside, c.well_formed)

pub overflow_add-o-in-loop-i : goal.overflow_add-o-in-loop-i
overflow_add-o-in-loop-i c = let size : ℕ = (let A = c.args in get_or A.sizes.now (A.j + c.loop-i.i) 0) in
    let inside : c.loop-i.o + 13 + 3 * size ≤ length c.args.src.now = ahead_inside _ _ _ _ _ _ c.requires.0.listed c.loop-i-test.true c.loop-i.invariant.ahead in
    omega (arith, inside, c.well_formed)

pub returns-in_err-s : goal.returns-in_err-s
returns-in_err-s c =
    let told : c.from_residual.result ≡ Err c.in_err-s.field-0.0 = search rules in
    cutting_stop _ _ _ _ _ _ _ _ _ _ _ _ _ _ _ _ _ _ _ _ c.cut_face.new.face _ _ _ _ _ c.requires.0.listed c.loop-i-test.true c.cut_face.ensures c.loop-i.invariant _ _ c.in_err-s.was told

pub loop-i-preserved : goal.loop-i-preserved
loop-i-preserved c =
    cutting_step _ _ _ _ _ _ _ _ _ _ _ _ _ _ _ _ _ _ _ _ _ _ _ _ _ _ c.requires.0.listed c.loop-i-test.true c.cut_face.ensures c.loop-i.invariant _ c.in_ok-s.was c.cut_face.auto.face c.cut_face.auto.cap c.cut_face.auto.dst c.cut_face.auto.counts

pub returns : goal.returns
returns c = cutting_end _ _ _ _ _ _ _ _ _ _ _ _ _ _ _ _ _ _ _ _ _ c.loop-i-test.false c.loop-i.invariant
