use Rattle.std.specs.Prelude.{Err, ◌≡◌}
use Rattle.std.proofs.Common.{rules}
use Prim.Native.Nat.{ℕ, ◌+◌, ◌-◌, ◌*◌, ◌≤◌}
use native.Mathlib.Omega.{arith}
use lib.ListN.{length, get_or}
use Rattle.cell.specs.Laws.{filling_start, filling_step, copying_stop, copying_filled, copying_end, copying_all, ahead_small, ahead_inside}
use Rattle.cell.proofs.left_cell.Goals as goal

pub loop-i-init : goal.loop-i-init
loop-i-init c = filling_start _ _ _ _ _ _ _ _ _ _ c.requires.within

pub copy_face-requires : goal.copy_face-requires
copy_face-requires c = let size : ℕ = (let A = c.args in get_or A.sizes.now (A.j + c.loop-i.i) 0) in
    let small : size ≤ 128 = ahead_small _ _ _ _ _ _ c.requires.listed c.loop-i-test.true c.loop-i.invariant.copying.ahead in
    let size : ℕ = (let A = c.args in get_or A.sizes.now (A.j + c.loop-i.i) 0) in
    let inside : c.loop-i.o + 13 + 3 * size ≤ length c.args.src.now = ahead_inside _ _ _ _ _ _ c.requires.listed c.loop-i-test.true c.loop-i.invariant.copying.ahead in
    record {
      fits = record {
        few = c.loop-i.invariant.copying.few;
        fit = c.loop-i.invariant.copying.fit;
        place = omega (arith, c.requires.place, c.loop-i.invariant.copying.size);
        slots = omega (arith, c.requires.slots, c.loop-i.invariant.copying.slots);
      };
      n_bound = (small, inside);
    }

pub overflow_add-o : goal.overflow_add-o
overflow_add-o c = let size : ℕ = (let A = c.args in get_or A.sizes.now (A.j + c.loop-i.i) 0) in
    let inside : c.loop-i.o + 13 + 3 * size ≤ length c.args.src.now = ahead_inside _ _ _ _ _ _ c.requires.listed c.loop-i-test.true c.loop-i.invariant.copying.ahead in
    omega (arith, inside, c.well_formed)

pub overflow_mul-o : goal.overflow_mul-o
overflow_mul-o c = let size : ℕ = (let A = c.args in get_or A.sizes.now (A.j + c.loop-i.i) 0) in
    let inside : c.loop-i.o + 13 + 3 * size ≤ length c.args.src.now = ahead_inside _ _ _ _ _ _ c.requires.listed c.loop-i-test.true c.loop-i.invariant.copying.ahead in
    omega (arith, inside, c.well_formed)

pub overflow_add-o-in-loop-i : goal.overflow_add-o-in-loop-i
overflow_add-o-in-loop-i c = let size : ℕ = (let A = c.args in get_or A.sizes.now (A.j + c.loop-i.i) 0) in
    let inside : c.loop-i.o + 13 + 3 * size ≤ length c.args.src.now = ahead_inside _ _ _ _ _ _ c.requires.listed c.loop-i-test.true c.loop-i.invariant.copying.ahead in
    omega (arith, inside, c.well_formed)

pub returns-in_err-s : goal.returns-in_err-s
returns-in_err-s c =
    let told : c.from_residual.result ≡ Err c.in_err-s.field-0.0 = search rules in
    record {
      stored = copying_stop _ _ _ _ _ _ _ _ _ _ _ _ _ _ _ _ _ _ c.requires.listed c.loop-i-test.true c.copy_face.ensures c.loop-i.invariant.copying _ _ c.in_err-s.was told;
      filled = copying_filled _ _ _ _ _ _ _ _ _ _ _ _ _ _ _ _ _ _ c.requires.listed c.loop-i-test.true c.copy_face.ensures c.loop-i.invariant _ c.in_err-s.was;
    }

pub loop-i-preserved : goal.loop-i-preserved
loop-i-preserved c =
    filling_step _ _ _ _ _ _ _ _ _ _ _ _ _ _ _ _ _ _ c.requires.listed c.loop-i-test.true c.copy_face.ensures c.loop-i.invariant _ c.in_ok-s.was c.copy_face.auto.dst c.copy_face.auto.counts

pub returns : goal.returns
returns c = record {
  stored = copying_end _ _ _ _ _ _ _ _ _ _ _ _ _ _ _ c.loop-i-test.false c.loop-i.invariant.copying;
  filled = copying_all _ _ _ _ _ _ _ _ _ _ _ _ _ _ _ c.loop-i-test.false c.loop-i.invariant;
}
