use Rattle.edges.specs.Laid.{going_start, going_facet, going_next, going_up, going_in, going_room, going_step, going_end}
use borrow.Author.Rules.{rules}
use native.Mathlib.Omega.{arith}
use Rattle.edges.proofs.all_runs.Goals as goal

pub loop-p-init : goal.loop-p-init
loop-p-init c = search (rules, going_start)

pub offset_bounds-starts-i : goal.offset_bounds-starts-i
offset_bounds-starts-i c =
    let s = c in
    let a = s.args in
    omega (arith, going_facet a.v.now a.starts.now a.faces.now a.d.now a.f s.requires.0 c.loop-p.p c.loop-p-test.true)

pub bounds-starts-i : goal.bounds-starts-i
bounds-starts-i c = search (rules, going_facet)

pub overflow_add-e : goal.overflow_add-e
overflow_add-e c =
    let s = c in
    let a = s.args in
    omega (arith, going_next a.v.now a.starts.now a.faces.now a.d.now a.f s.requires.0 c.loop-p.p c.loop-p-test.true)

pub offset_bounds-starts-i-in-loop-p : goal.offset_bounds-starts-i-in-loop-p
offset_bounds-starts-i-in-loop-p c =
    let s = c in
    let a = s.args in
    omega (arith, going_next a.v.now a.starts.now a.faces.now a.d.now a.f s.requires.0 c.loop-p.p c.loop-p-test.true)

pub bounds-starts-i-in-loop-p : goal.bounds-starts-i-in-loop-p
bounds-starts-i-in-loop-p c = search (rules, going_next)

pub face_runs-c-requires : goal.face_runs-c-requires
face_runs-c-requires c = (search (rules, going_up), search (rules, going_in), search (rules, going_room))

pub loop-p-preserved : goal.loop-p-preserved
loop-p-preserved c = search (rules, going_step)

pub returns : goal.returns
returns c = search (rules, going_end)
