use Rattle.merge.specs.Laws.{filling_step}
use Rattle.merge.proofs.fill.Goals as goal

pub loop-i-preserved : goal.loop-i-preserved
loop-i-preserved c = filling_step c.loop-i.invariant c.loop-i-test.true
