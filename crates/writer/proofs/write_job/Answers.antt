use native.Mathlib.Omega.{arith}
use lib.ListN.{length}
use borrow.Author.Rules.{rules}
use Rattle.writer.specs.Writing.{solid_in}
use Rattle.writer.specs.Laws.{job_room, job_end, job_stored}
use Rattle.writer.proofs.write_job.Goals as goal

pub put_precision-requires : goal.put_precision-requires
put_precision-requires c =
    let A = c.args in
    let a = solid_in A.points.now A.m A.places.now A.counts.now A.n in
    let b = solid_in A.points2.now A.m2 A.places2.now A.counts2.now A.n2 in
    search (rules, job_room A.t A.operation a b (length A.out.now) c.requires.n2_in_bounds)

pub write_solid-first-requires : goal.write_solid-first-requires
write_solid-first-requires c =
    let A = c.args in
    let a = solid_in A.points.now A.m A.places.now A.counts.now A.n in
    let b = solid_in A.points2.now A.m2 A.places2.now A.counts2.now A.n2 in
    search (rules, job_room A.t A.operation a b (length A.out.now) c.requires.n2_in_bounds)

pub write_solid-second-requires : goal.write_solid-second-requires
write_solid-second-requires c =
    let A = c.args in
    let a = solid_in A.points.now A.m A.places.now A.counts.now A.n in
    let b = solid_in A.points2.now A.m2 A.places2.now A.counts2.now A.n2 in
    search (rules, job_room A.t A.operation a b (length A.out.now) c.requires.n2_in_bounds)

pub put_operation-requires : goal.put_operation-requires
put_operation-requires c =
    let A = c.args in
    let a = solid_in A.points.now A.m A.places.now A.counts.now A.n in
    let b = solid_in A.points2.now A.m2 A.places2.now A.counts2.now A.n2 in
    search (rules, job_room A.t A.operation a b (length A.out.now) c.requires.n2_in_bounds)

pub overflow_add-result : goal.overflow_add-result
overflow_add-result c =
    let A = c.args in
    let a = solid_in A.points.now A.m A.places.now A.counts.now A.n in
    let b = solid_in A.points2.now A.m2 A.places2.now A.counts2.now A.n2 in
    omega (arith, job_room A.t A.operation a b (length A.out.now) c.requires.n2_in_bounds, c.write_solid-first.ensures.value, c.write_solid-second.ensures.value, c.well_formed)

pub returns : goal.returns
returns c = let A = c.args in
    let a = solid_in A.points.now A.m A.places.now A.counts.now A.n in
    let b = solid_in A.points2.now A.m2 A.places2.now A.counts2.now A.n2 in
    let F = c.write_solid-first in
    let G = c.write_solid-second in
    record { value = job_end A.t A.operation a b F.result G.result F.ensures.value G.ensures.value; out_after = job_stored A.t A.operation a b A.out.now _ _ _ _ F.result G.result c.put_precision.ensures F.ensures.out_after F.ensures.value G.ensures.out_after G.ensures.value c.put_operation.ensures }
