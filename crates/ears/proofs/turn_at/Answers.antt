use Rattle.ears.specs.Laws.{turn_is}
use Rattle.ears.proofs.turn_at.Goals as goal

pub returns : goal.returns
returns c = turn_is c.args.p c.args.o.now.at c.args.o.now.n c.args.w c.requires.0 c.orientation.result c.orientation.ensures
