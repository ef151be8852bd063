use lib.Ieee.{neg}
use Rattle.interval.proofs.whole.Goals as goal

pub returns : goal.returns
unfolding neg
returns c = simp c.infinity-h.ensures
