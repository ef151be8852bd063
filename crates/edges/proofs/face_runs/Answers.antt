use Prim.Native.Nat.{◌-◌}
use Rattle.edges.specs.Laid.{rounding_start, rounding_next, rounding_step, rounding_end, rounding_room}
use Prim.Native.Nat.{◌+◌}
use native.Mathlib.Nat.{mod-lt}
use borrow.Author.Rules.{rules}
use native.Mathlib.Omega.{arith}
use Rattle.edges.proofs.face_runs.Goals as goal

pub loop-i-init : goal.loop-i-init
loop-i-init c = search (rules, rounding_start)

pub overflow_add-y-in-loop-i : goal.overflow_add-y-in-loop-i
overflow_add-y-in-loop-i c =
    let s = c in
    let z = mod-lt (c.loop-i.i + 1) {m = s.args.e - s.args.a} (omega (arith, c.loop-i-test.true)) in
    omega (arith, z, s.requires.0, s.requires.1, s.well_formed)

pub offset_bounds-v-a-in-loop-i : goal.offset_bounds-v-a-in-loop-i
offset_bounds-v-a-in-loop-i c =
    let s = c in
    let z = mod-lt (c.loop-i.i + 1) {m = s.args.e - s.args.a} (omega (arith, c.loop-i-test.true)) in
    omega (arith, z, s.requires.0, s.requires.1)

pub bounds-v-a-in-loop-i : goal.bounds-v-a-in-loop-i
bounds-v-a-in-loop-i c = search (rules, rounding_next)

pub put_run-requires : goal.put_run-requires
put_run-requires c = search (rules, rounding_room)

pub loop-i-preserved : goal.loop-i-preserved
loop-i-preserved c = search (rules, rounding_step)

pub returns : goal.returns
returns c = (search rules, search (rules, rounding_end))
