use Rattle.answer.specs.Laws.{plane_stored}
use Rattle.answer.proofs.put_plane.Goals as goal

pub returns : goal.returns
returns c = let A = c.args in plane_stored A.out.now _ _ _ _ A.at A.w c.put_point.ensures c.put_point-2.ensures c.put_point-3.ensures c.put_point-4.ensures
