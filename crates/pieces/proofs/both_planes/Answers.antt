use Rattle.room.specs.Laws.{cell_faces}
use Rattle.pieces.specs.Laws.{planes_put}
use native.Mathlib.Omega.{arith}
use Rattle.pieces.proofs.both_planes.Goals as goal

pub planes_of-requires : goal.planes_of-requires
planes_of-requires c = (c.requires.0.given, omega (arith, c.requires.0.few, c.requires.3))

pub planes_of-requires-2 : goal.planes_of-requires-2
planes_of-requires-2 c = (c.requires.1, omega (arith, c.requires.0.few, c.requires.2, c.requires.3, c.planes_of.auto.planes))

pub returns : goal.returns
returns c = planes_put _ _ _ _ _ _ (cell_faces _ _ _ _ _ c.requires.0.given.listed) c.planes_of.ensures c.planes_of-2.ensures
