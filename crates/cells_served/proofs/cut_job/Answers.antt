use mathlib.Core.Path.{◌∙◌}
use native.Mathlib.Omega.{arith}
use Rattle.cells_served.specs.Laws.{cut_stop, cut_given, cut_go}
use Rattle.cells_served.proofs.cut_job.Goals as goal

pub take_both-taken-requires : goal.take_both-taken-requires
take_both-taken-requires c = let h = c.requires in
    record { stood = (h.stood.0, h.stood.1); in_bounds = (h.stood.2, omega (arith, h.place.0.slots), omega arith, omega arith) }

pub shape_of-rest-in-Err : goal.shape_of-rest-in-Err
shape_of-rest-in-Err c = c.take_both-taken.auto.a

pub shape_of-held-in-Err : goal.shape_of-held-in-Err
shape_of-held-in-Err c = c.take_both-taken.auto.held

pub returns-in-Err : goal.returns-in-Err
returns-in-Err c = let A = c.args in cut_stop A.job.now A.y _ _ _ _ _ c.take_both-taken.ensures A.limit _ A.dst.now A.counts.now A.sizes.now c.in-Err.is

pub boolean_cells-requires : goal.boolean_cells-requires
boolean_cells-requires c = let A = c.args in
    let h = c.requires.place in
    let T = c.take_both-taken in
    record {
      sits = cut_given A.job.now A.y _ _ _ _ _ T.ensures _ c.in-Ok.is;
      place = (
        record { place = omega (arith, T.auto.a, h.0.place); slots = omega (arith, T.auto.held, h.0.slots) },
        h.1,
        h.2,
      );
    }

pub shape_of-rest-in-Ok : goal.shape_of-rest-in-Ok
shape_of-rest-in-Ok c = c.boolean_cells.auto.rest ∙ c.take_both-taken.auto.a

pub shape_of-spare : goal.shape_of-spare
shape_of-spare c = c.boolean_cells.auto.spare

pub shape_of-dst : goal.shape_of-dst
shape_of-dst c = c.boolean_cells.auto.dst

pub shape_of-held-in-Ok : goal.shape_of-held-in-Ok
shape_of-held-in-Ok c = c.boolean_cells.auto.held ∙ c.take_both-taken.auto.held

pub shape_of-slots : goal.shape_of-slots
shape_of-slots c = c.boolean_cells.auto.slots

pub shape_of-counts : goal.shape_of-counts
shape_of-counts c = c.boolean_cells.auto.counts

pub shape_of-sizes : goal.shape_of-sizes
shape_of-sizes c = c.boolean_cells.auto.sizes

pub returns-in-Ok : goal.returns-in-Ok
returns-in-Ok c =
    let A = c.args in
    cut_go A.job.now A.y _ _ _ _ _ c.take_both-taken.ensures A.limit _ _ _ _ _ c.in-Ok.is c.boolean_cells.ensures
