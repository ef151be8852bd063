use mathlib.Core.Path.{◌∙◌}
use native.Mathlib.Omega.{arith}
use Rattle.fuse_served.specs.Laws.{cut_stop, cut_cells, cut_go}
use Rattle.fuse_served.proofs.cut_job.Goals as goal

pub take_both-taken-requires : goal.take_both-taken-requires
take_both-taken-requires c = let h = c.requires in
    record { stood = h.stood; in_bounds = (h.in_bounds.0, omega (arith, h.in_bounds.1.slots), omega arith, omega arith) }

pub shape_of-rest-in-Err : goal.shape_of-rest-in-Err
shape_of-rest-in-Err c = c.take_both-taken.auto.a

pub shape_of-held-in-Err : goal.shape_of-held-in-Err
shape_of-held-in-Err c = c.take_both-taken.auto.held

pub returns-in-Err : goal.returns-in-Err
returns-in-Err c = let A = c.args in cut_stop A.job.now _ _ _ _ _ _ c.take_both-taken.ensures A.limit _ _ _ _ c.in-Err.is

pub pieces-requires : goal.pieces-requires
pieces-requires c = let h = c.requires in
    let T = c.take_both-taken in
    record {
      sits = cut_cells c.args.job.now _ _ _ _ _ _ T.ensures _ c.in-Ok.is;
      in_bounds = (
        omega arith,
        record { place = omega (arith, h.in_bounds.1.place, T.auto.a); slots = omega (arith, h.in_bounds.1.slots, T.auto.held) },
        h.in_bounds.2,
        h.in_bounds.3,
      );
    }

pub shape_of-rest-in-Ok : goal.shape_of-rest-in-Ok
shape_of-rest-in-Ok c = c.pieces.auto.rest ∙ c.take_both-taken.auto.a

pub shape_of-spare : goal.shape_of-spare
shape_of-spare c = c.pieces.auto.spare

pub shape_of-dst : goal.shape_of-dst
shape_of-dst c = c.pieces.auto.dst

pub shape_of-held-in-Ok : goal.shape_of-held-in-Ok
shape_of-held-in-Ok c = c.pieces.auto.held ∙ c.take_both-taken.auto.held

pub shape_of-slots : goal.shape_of-slots
shape_of-slots c = c.pieces.auto.slots

pub shape_of-counts : goal.shape_of-counts
shape_of-counts c = c.pieces.auto.counts

pub shape_of-sizes : goal.shape_of-sizes
shape_of-sizes c = c.pieces.auto.sizes

pub shape_of-seats : goal.shape_of-seats
shape_of-seats c = c.pieces.auto.seats

pub returns-in-Ok : goal.returns-in-Ok
returns-in-Ok c = let A = c.args in cut_go A.job.now _ _ _ _ _ _ c.take_both-taken.ensures A.limit _ _ _ _ _ c.in-Ok.is c.pieces.ensures
