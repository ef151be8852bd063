use Rattle.mesh.specs.Laws.{last_is}
use Rattle.outline.specs.Project.{points_of}
use Rattle.mesh.proofs.last.Goals as goal

pub returns : goal.returns
returns c = last_is c.args.p (points_of c.args.o) c.args.active.at c.args.active.n c.args.out c.turn_at.result c.last_by.result c.requires.1 c.turn_at.ensures c.last_by.ensures
