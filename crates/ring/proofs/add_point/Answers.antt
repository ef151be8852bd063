use Rattle.ring.specs.Laws.{added_full, added_one}
use Rattle.ring.proofs.add_point.Goals as goal

pub returns-then-limit-n : goal.returns-then-limit-n
returns-then-limit-n c = added_full _ _ _ _ _ c.if-limit-n.true c.refuse.ensures

pub returns : goal.returns
returns c = added_one _ _ _ _ _ c.if-limit-n.false c.requires.1 c.put_point.ensures
