use Rattle.solid_mesh.specs.Laws.{triangle_stored}
use Rattle.solid_mesh.proofs.put_triangle.Goals as goal

pub returns : goal.returns
returns c = triangle_stored _ _ _ _ _ _ c.put_count.ensures c.put_count-2.ensures c.put_count-3.ensures
