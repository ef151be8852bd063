use native.Mathlib.Omega.{arith}
use Rattle.solid_leaves.specs.Unpacked.{laid_room, laid_faces, laid_work, laid_placing, laid_number}
use Rattle.solid_leaves.proofs.check_laid.Goals as goal

pub unpack_points-requires : goal.unpack_points-requires
unpack_points-requires c =
    let A = c.args in
    let r = laid_room A.job.now A.y c.requires.0 c.requires.1 in
    r.0

pub unpack_faces-requires : goal.unpack_faces-requires
unpack_faces-requires c =
    let A = c.args in
    let r = laid_room A.job.now A.y c.requires.0 c.requires.1 in
    laid_faces A.job.now A.y c.requires.0 c.requires.1

pub check-v-requires : goal.check-v-requires
check-v-requires c = let A = c.args in
    let r = laid_room A.job.now A.y c.requires.0 c.requires.1 in
    let w = laid_work A.job.now A.y c.requires.0 c.requires.1 in
    let m = c.unpack_points.auto.out in
    let n = c.unpack_faces.auto.counts in
    let p = c.unpack_faces.auto.indices in
    let R = c.requires.1 in
    record { m_in_bounds = (omega (arith, m, r.0), omega (arith, n, r.1), laid_placing A.job.now A.y c.requires.0 A.points.now _ A.counts.now _ A.places.now _ r.0 r.1 r.2 c.unpack_points.ensures c.unpack_faces.ensures.counts_after c.unpack_faces.ensures.indices_after); places_in_bounds = (omega (arith, p, R.d), omega (arith, p, R.e), omega (arith, p, R.f)); n_in_bounds = w }

pub returns : goal.returns
returns c =
    let A = c.args in
    let r = laid_room A.job.now A.y c.requires.0 c.requires.1 in
    laid_number A.job.now A.y c.requires.0 A.points.now _ A.counts.now _ A.places.now _ r.0 r.1 r.2 c.unpack_points.ensures c.unpack_faces.ensures.counts_after c.unpack_faces.ensures.indices_after _ _ _ c.number_by.ensures c.check-v.ensures
