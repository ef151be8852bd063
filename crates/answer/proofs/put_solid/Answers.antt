use lib.ListN.{length}
use Rattle.answer.specs.Laws.{faces_number, solid_room, solid_end, solid_stored}
use borrow.Author.Rules.{rules}
use Rattle.answer.proofs.put_solid.Goals as goal

pub put_count-requires : goal.put_count-requires
put_count-requires c =
    let A = c.args in
    let e = faces_number A.places.now A.counts.now A.n c.requires.1.few in
    search (rules, solid_room A.points.now A.m A.places.now A.counts.now A.n A.at (length A.out.now) e c.requires.2)

pub overflow_add-at : goal.overflow_add-at
overflow_add-at c =
    let A = c.args in
    let e = faces_number A.places.now A.counts.now A.n c.requires.1.few in
    search (rules, solid_room A.points.now A.m A.places.now A.counts.now A.n A.at (length A.out.now) e c.requires.2)

pub put_points-requires : goal.put_points-requires
put_points-requires c =
    let A = c.args in
    let e = faces_number A.places.now A.counts.now A.n c.requires.1.few in
    search (rules, solid_room A.points.now A.m A.places.now A.counts.now A.n A.at (length A.out.now) e c.requires.2)

pub overflow_add-at-2 : goal.overflow_add-at-2
overflow_add-at-2 c =
    let A = c.args in
    let e = faces_number A.places.now A.counts.now A.n c.requires.1.few in
    search (rules, solid_room A.points.now A.m A.places.now A.counts.now A.n A.at (length A.out.now) e c.requires.2)

pub overflow_mul-m : goal.overflow_mul-m
overflow_mul-m c =
    let A = c.args in
    let e = faces_number A.places.now A.counts.now A.n c.requires.1.few in
    search (rules, solid_room A.points.now A.m A.places.now A.counts.now A.n A.at (length A.out.now) e c.requires.2)

pub overflow_add-at-3 : goal.overflow_add-at-3
overflow_add-at-3 c =
    let A = c.args in
    let e = faces_number A.places.now A.counts.now A.n c.requires.1.few in
    search (rules, solid_room A.points.now A.m A.places.now A.counts.now A.n A.at (length A.out.now) e c.requires.2)

pub put_count-requires-2 : goal.put_count-requires-2
put_count-requires-2 c =
    let A = c.args in
    let e = faces_number A.places.now A.counts.now A.n c.requires.1.few in
    search (rules, solid_room A.points.now A.m A.places.now A.counts.now A.n A.at (length A.out.now) e c.requires.2)

pub overflow_add-at-4 : goal.overflow_add-at-4
overflow_add-at-4 c =
    let A = c.args in
    let e = faces_number A.places.now A.counts.now A.n c.requires.1.few in
    search (rules, solid_room A.points.now A.m A.places.now A.counts.now A.n A.at (length A.out.now) e c.requires.2)

pub overflow_mul-m-2 : goal.overflow_mul-m-2
overflow_mul-m-2 c =
    let A = c.args in
    let e = faces_number A.places.now A.counts.now A.n c.requires.1.few in
    search (rules, solid_room A.points.now A.m A.places.now A.counts.now A.n A.at (length A.out.now) e c.requires.2)

pub overflow_add-at-5 : goal.overflow_add-at-5
overflow_add-at-5 c =
    let A = c.args in
    let e = faces_number A.places.now A.counts.now A.n c.requires.1.few in
    search (rules, solid_room A.points.now A.m A.places.now A.counts.now A.n A.at (length A.out.now) e c.requires.2)

pub put_faces-requires : goal.put_faces-requires
put_faces-requires c =
    let A = c.args in
    let e = faces_number A.places.now A.counts.now A.n c.requires.1.few in
    search (rules, solid_room A.points.now A.m A.places.now A.counts.now A.n A.at (length A.out.now) e c.requires.2)

pub returns : goal.returns
returns c = let A = c.args in
    let e = faces_number A.places.now A.counts.now A.n c.requires.1.few in
    let F = c.put_faces in
    record { value = solid_end A.points.now A.m A.places.now A.counts.now A.n A.at _ e F.ensures.value; out_after = solid_stored A.points.now A.m A.places.now A.counts.now A.n A.out.now _ _ _ _ A.at e c.put_count.ensures c.put_points.ensures c.put_count-2.ensures F.ensures.out_after }
