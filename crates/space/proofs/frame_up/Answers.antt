use Rattle.space.proofs.Laws.{up_short, up_long}
use Rattle.space.proofs.frame_up.Goals as goal

pub returns-then-is_short : goal.returns-then-is_short
returns-then-is_short c = up_short _ _ _ _ _ _ _ c.is_short.ensures c.if-is_short.true c.refuse.ensures

pub returns : goal.returns
returns c = up_long _ _ _ _ _ _ _ _ c.is_short.ensures c.if-is_short.false c.over.ensures c.frame_along.ensures
