use Rattle.std.specs.Prelude.{Err, ◌≡◌}
use mathlib.Core.Path.{◌∙◌}
use Rattle.std.proofs.Common.{rules}
use Prim.Native.Nat.{ℕ, ◌+◌, ◌-◌, ◌*◌, ◌≤◌}
use native.Mathlib.Omega.{arith}
use lib.ListN.{length, get_or}
use Rattle.cell.specs.Laws.{ahead_inside}
use Rattle.clip.specs.Laws.{signed_start, signed_step, signed_stop, signed_end}
use Rattle.clip.proofs.sign_cell.Goals as goal

pub loop-i-init : goal.loop-i-init
loop-i-init c = signed_start _ _ _ _ _ _ _ _ c.requires.within c.unseen-s.ensures

pub overflow_add-o : goal.overflow_add-o
overflow_add-o c = let size : ℕ = (let A = c.args in get_or A.sizes.now (A.j + c.loop-i.i) 0) in
    let inside : c.loop-i.o + 13 + 3 * size ≤ length c.args.src.now = ahead_inside _ _ _ _ _ _ c.requires.listed c.loop-i-test.true c.loop-i.invariant.ahead in
    omega (arith, inside, c.well_formed)

pub sign_face-requires : goal.sign_face-requires
sign_face-requires c = let size : ℕ = (let A = c.args in get_or A.sizes.now (A.j + c.loop-i.i) 0) in
    let inside : c.loop-i.o + 13 + 3 * size ≤ length c.args.src.now = ahead_inside _ _ _ _ _ _ c.requires.listed c.loop-i-test.true c.loop-i.invariant.ahead in
    omega (arith, inside)

pub overflow_add-o-in-loop-i : goal.overflow_add-o-in-loop-i
overflow_add-o-in-loop-i c = let size : ℕ = (let A = c.args in get_or A.sizes.now (A.j + c.loop-i.i) 0) in
    let inside : c.loop-i.o + 13 + 3 * size ≤ length c.args.src.now = ahead_inside _ _ _ _ _ _ c.requires.listed c.loop-i-test.true c.loop-i.invariant.ahead in
    omega (arith, inside, c.well_formed)

pub overflow_mul-o : goal.overflow_mul-o
overflow_mul-o c = let size : ℕ = (let A = c.args in get_or A.sizes.now (A.j + c.loop-i.i) 0) in
    let inside : c.loop-i.o + 13 + 3 * size ≤ length c.args.src.now = ahead_inside _ _ _ _ _ _ c.requires.listed c.loop-i-test.true c.loop-i.invariant.ahead in
    omega (arith, inside, c.well_formed)

pub overflow_add-o-in-loop-i-2 : goal.overflow_add-o-in-loop-i-2
overflow_add-o-in-loop-i-2 c = let size : ℕ = (let A = c.args in get_or A.sizes.now (A.j + c.loop-i.i) 0) in
    let inside : c.loop-i.o + 13 + 3 * size ≤ length c.args.src.now = ahead_inside _ _ _ _ _ _ c.requires.listed c.loop-i-test.true c.loop-i.invariant.ahead in
    omega (arith, inside, c.well_formed)

pub returns-in_err-s : goal.returns-in_err-s
returns-in_err-s c =
    let told : c.from_residual.result ≡ Err c.in_err-s.field-0.0 = search rules in
    told ∙ signed_stop _ _ _ _ _ _ _ _ _ _ _ c.requires.listed c.loop-i-test.true c.sign_face.ensures c.loop-i.invariant _ c.in_err-s.was

pub loop-i-preserved : goal.loop-i-preserved
loop-i-preserved c =
    signed_step _ _ _ _ _ _ _ _ _ _ _ c.requires.listed c.loop-i-test.true c.sign_face.ensures c.loop-i.invariant _ c.in_ok-s.was

pub returns : goal.returns
returns c = signed_end _ _ _ _ _ _ _ _ _ _ c.loop-i-test.false c.loop-i.invariant
