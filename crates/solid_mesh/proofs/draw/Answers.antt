use Rattle.solid_mesh.specs.Laws.{corners_lent, few_answered, facet_drawn}
use native.Mathlib.Omega.{arith}
use borrow.Author.Rules.{rules}
use Rattle.solid_mesh.proofs.draw.Goals as goal

pub slice_bounds-corners-end : goal.slice_bounds-corners-end
slice_bounds-corners-end c = search (rules, corners_lent)

pub slice_bounds-mesh-end : goal.slice_bounds-mesh-end
slice_bounds-mesh-end c = search (rules, corners_lent)

pub put_meshed-requires : goal.put_meshed-requires
put_meshed-requires c = few_answered _ _ _ _ (omega (arith, c.requires)) c.unpack_points.ensures _ c.mesh-m.ensures _ c.requires.0 c.requires.1

pub returns : goal.returns
returns c = facet_drawn _ _ _ _ (omega (arith, c.requires)) c.unpack_points.ensures _ c.mesh-m.ensures _ _ _ c.put_meshed.ensures
