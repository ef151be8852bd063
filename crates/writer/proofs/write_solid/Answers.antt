use borrow.Author.Rules.{rules}
use mathlib.Core.Path.{◌∙◌}
use lib.ListN.{length}
use Rattle.writer.specs.Laws.{solid_room, solid_end, solid_stored}
use Rattle.writer.proofs.write_solid.Goals as goal

pub write_points-requires : goal.write_points-requires
write_points-requires c = let A = c.args in search (rules, solid_room A.points.now A.m A.places.now A.counts.now A.n A.at (length A.out.now) c.requires.2)

pub overflow_add-at : goal.overflow_add-at
overflow_add-at c = let A = c.args in search (rules, solid_room A.points.now A.m A.places.now A.counts.now A.n A.at (length A.out.now) c.requires.2)

pub write_faces-end-requires : goal.write_faces-end-requires
write_faces-end-requires c = let A = c.args in search (rules, solid_room A.points.now A.m A.places.now A.counts.now A.n A.at (length A.out.now) c.requires.2)

pub put_end-requires : goal.put_end-requires
put_end-requires c = let A = c.args in search (rules, solid_room A.points.now A.m A.places.now A.counts.now A.n A.at (length A.out.now) c.requires.2)

pub overflow_add-result : goal.overflow_add-result
overflow_add-result c = let A = c.args in search (rules, solid_room A.points.now A.m A.places.now A.counts.now A.n A.at (length A.out.now) c.requires.2)

pub returns : goal.returns
returns c = let A = c.args in
    let F = c.write_faces-end in
    record { value = solid_end A.points.now A.m A.places.now A.counts.now A.n A.at F.result F.ensures.value; out_after = c.put_end.ensures ∙ solid_stored A.points.now A.m A.places.now A.counts.now A.n A.out.now _ _ A.at F.result c.write_points.ensures F.ensures.out_after F.ensures.value }
