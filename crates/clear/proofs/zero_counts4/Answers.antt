use Rattle.clear.specs.Clear.{zeros}
use Rattle.clear.proofs.zero_counts4.Goals as goal

pub returns : goal.returns
unfolding zeros
returns c = record { a_after = c.zero_counts.ensures; b_after = c.zero_counts-2.ensures; c_after = c.zero_counts-3.ensures; d_after = c.zero_counts-4.ensures }
