use Rattle.mesh_leaf.proofs.Answers.{few_triangles, mesh_places, mesh_short, mesh_done}
use borrow.Author.Tests.{not-true, not-false}
use mathlib.Core.Path.{ap}
use mathlib.Core.Bool.{not}
use Rattle.mesh_leaf.proofs.leaf_mesh.Goals as goal

pub returns-then-not-fits : goal.returns-then-not-fits
returns-then-not-fits c = mesh_short _ _ _ _ _ _ _ c.mesh_fits-fits.ensures (not-true _ (ap not c.if-not-fits.true))

pub put_meshed-requires : goal.put_meshed-requires
put_meshed-requires c =
    let p = mesh_places _ _ _ _ c.mesh_fits-fits.ensures (not-false _ (ap not c.if-not-fits.false)) in
    (p.0, p.1, few_triangles _ _ _ c.mesh.ensures)

pub returns : goal.returns
returns c =
    let e = c.put_meshed.ensures in
    mesh_done _ _ _ _ _ _ _ c.mesh_fits-fits.ensures _ _ _ _ _ (not-false _ (ap not c.if-not-fits.false)) c.plane_by-w.ensures c.mesh.ensures e.value e.out_after e.told_after
