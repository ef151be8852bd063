use Rattle.hollow.specs.Laws.{room_full, room_left}
use Rattle.hollow.proofs.room_for.Goals as goal

pub returns-then-limit-n : goal.returns-then-limit-n
returns-then-limit-n c = room_full _ _ _ c.if-limit-n.true c.refuse.ensures

pub returns : goal.returns
returns c = room_left _ _ c.if-limit-n.false
