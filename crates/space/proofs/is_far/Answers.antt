use Rattle.space.proofs.Far.{far_first, far_other}
use Rattle.space.proofs.is_far.Goals as goal

pub returns-then-g-size_of : goal.returns-then-g-size_of
returns-then-g-size_of c = far_first _ _ _ _ _ _ c.size_of.ensures c.if-g-size_of.true c.is_nan.ensures

pub returns : goal.returns
returns c = far_other _ _ _ _ _ _ _ _ c.size_of.ensures c.if-g-size_of.false c.size_of-2.ensures c.size_of-3.ensures c.is_nan-2.ensures
