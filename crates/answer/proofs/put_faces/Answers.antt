use mathlib.Core.Path.{◌≡◌}
use native.Mathlib.Omega.{arith}
use Prim.Native.Nat.{ℕ, ◌+◌, ◌*◌, ◌≤◌}
use lib.ListN.{length, get_or}
use Rattle.room.specs.Rooms.{counts_at}
use Rattle.writer.specs.Rows.{faces_start, face_fits, face_corners, face_inside, faces_turn, faces_end}
use Rattle.answer.specs.Answers.{face_answer}
use Rattle.answer.specs.Laws.{length_face_answer}
use Rattle.answer.proofs.put_faces.Goals as goal

pub loop-j-init : goal.loop-j-init
loop-j-init c = faces_start _ _ _ _ _ _ c.requires.0.placing

pub put_face-requires : goal.put_face-requires
put_face-requires c = let size : ℕ = get_or c.args.counts.now c.loop-j.j 0 in
    let fits : (c.loop-j.k + size ≤ length c.args.places.now) × (c.loop-j.o + 4 + 4 * size ≤ length c.loop-j.out) = (let L = c.loop-j in (
      face_fits L.invariant c.loop-j-test.true c.requires.0.few,
      omega (arith, face_inside L.invariant c.loop-j-test.true c.requires.0.few c.requires.1, length_face_answer (counts_at c.args.places.now L.k size), face_corners L.invariant c.loop-j-test.true c.requires.0.few),
    )) in
    fits

pub overflow_add-k : goal.overflow_add-k
overflow_add-k c = let size : ℕ = get_or c.args.counts.now c.loop-j.j 0 in
    let fits : (c.loop-j.k + size ≤ length c.args.places.now) × (c.loop-j.o + 4 + 4 * size ≤ length c.loop-j.out) = (let L = c.loop-j in (
      face_fits L.invariant c.loop-j-test.true c.requires.0.few,
      omega (arith, face_inside L.invariant c.loop-j-test.true c.requires.0.few c.requires.1, length_face_answer (counts_at c.args.places.now L.k size), face_corners L.invariant c.loop-j-test.true c.requires.0.few),
    )) in
    omega (arith, fits.0, fits.1, c.well_formed, c.loop-j.invariant.same)

pub overflow_mul-o : goal.overflow_mul-o
overflow_mul-o c = let size : ℕ = get_or c.args.counts.now c.loop-j.j 0 in
    let fits : (c.loop-j.k + size ≤ length c.args.places.now) × (c.loop-j.o + 4 + 4 * size ≤ length c.loop-j.out) = (let L = c.loop-j in (
      face_fits L.invariant c.loop-j-test.true c.requires.0.few,
      omega (arith, face_inside L.invariant c.loop-j-test.true c.requires.0.few c.requires.1, length_face_answer (counts_at c.args.places.now L.k size), face_corners L.invariant c.loop-j-test.true c.requires.0.few),
    )) in
    omega (arith, fits.0, fits.1, c.well_formed, c.loop-j.invariant.same)

pub overflow_add-o : goal.overflow_add-o
overflow_add-o c = let size : ℕ = get_or c.args.counts.now c.loop-j.j 0 in
    let fits : (c.loop-j.k + size ≤ length c.args.places.now) × (c.loop-j.o + 4 + 4 * size ≤ length c.loop-j.out) = (let L = c.loop-j in (
      face_fits L.invariant c.loop-j-test.true c.requires.0.few,
      omega (arith, face_inside L.invariant c.loop-j-test.true c.requires.0.few c.requires.1, length_face_answer (counts_at c.args.places.now L.k size), face_corners L.invariant c.loop-j-test.true c.requires.0.few),
    )) in
    omega (arith, fits.0, fits.1, c.well_formed, c.loop-j.invariant.same)

pub overflow_add-o-in-loop-j : goal.overflow_add-o-in-loop-j
overflow_add-o-in-loop-j c = let size : ℕ = get_or c.args.counts.now c.loop-j.j 0 in
    let fits : (c.loop-j.k + size ≤ length c.args.places.now) × (c.loop-j.o + 4 + 4 * size ≤ length c.loop-j.out) = (let L = c.loop-j in (
      face_fits L.invariant c.loop-j-test.true c.requires.0.few,
      omega (arith, face_inside L.invariant c.loop-j-test.true c.requires.0.few c.requires.1, length_face_answer (counts_at c.args.places.now L.k size), face_corners L.invariant c.loop-j-test.true c.requires.0.few),
    )) in
    omega (arith, fits.0, fits.1, c.well_formed, c.loop-j.invariant.same)

pub loop-j-preserved : goal.loop-j-preserved
loop-j-preserved c = let size : ℕ = get_or c.args.counts.now c.loop-j.j 0 in
    let behind : c.loop-j.o + (4 + 4 * size) ≡ c.loop-j.o + length (face_answer (counts_at c.args.places.now c.loop-j.k size)) = (let L = c.loop-j in
    omega (arith, length_face_answer (counts_at c.args.places.now L.k size), face_corners L.invariant c.loop-j-test.true c.requires.0.few)) in
    faces_turn c.loop-j.invariant c.loop-j-test.true c.requires.0.few _ _ c.put_face.ensures behind

pub returns : goal.returns
returns c = record { value = (faces_end c.loop-j.invariant c.loop-j-test.false).0; out_after = (faces_end c.loop-j.invariant c.loop-j-test.false).1 }
