use Rattle.clear.specs.Clear.{zero_floats}
use Rattle.clear.proofs.zero3.Goals as goal

pub returns : goal.returns
unfolding zero_floats
returns c = record { a_after = c.zero.ensures; b_after = c.zero-2.ensures; c_after = c.zero-3.ensures }
