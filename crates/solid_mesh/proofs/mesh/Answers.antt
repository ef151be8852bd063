use mathlib.Core.Path.{refl}
use Rattle.solid_mesh.specs.Laws.{not_read, small, many_corners, not_small, roomy}
use native.Mathlib.Omega.{arith}
use Rattle.solid_mesh.proofs.mesh.Goals as goal

pub returns-then-is_small : goal.returns-then-is_small
returns-then-is_small c = small _ _ _ c.read_facet.ensures _ c.in-Ok.is _ _ c.is_small.ensures c.if-is_small.true

pub returns-then-y-gt128 : goal.returns-then-y-gt128
returns-then-y-gt128 c = many_corners _ _ _ c.read_facet.ensures _ c.in-Ok.is _ _ c.is_small.ensures c.if-is_small.false c.if-y-gt128.true

pub draw-requires : goal.draw-requires
draw-requires c = (omega (arith, c.if-y-gt128.false), not_small _ _ _ c.is_small.ensures c.if-is_small.false)

pub returns-in-Err : goal.returns-in-Err
returns-in-Err c = not_read _ _ _ c.read_facet.ensures _ _ _ c.in-Err.is refl

pub returns-else-y-gt128 : goal.returns-else-y-gt128
returns-else-y-gt128 c = roomy _ _ _ c.read_facet.ensures _ c.in-Ok.is _ _ _ _ c.is_small.ensures c.if-is_small.false c.draw.ensures
