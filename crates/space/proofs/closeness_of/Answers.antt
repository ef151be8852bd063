use Rattle.space.specs.Near.{closeness_of}
use Rattle.space.proofs.closeness_of.Goals as goal

pub returns-in-Positive : goal.returns-in-Positive
unfolding closeness_of
returns-in-Positive c = cc

pub returns-in-Negative : goal.returns-in-Negative
unfolding closeness_of
returns-in-Negative c = cc

pub returns-in-Zero : goal.returns-in-Zero
unfolding closeness_of
returns-in-Zero c = cc

pub returns-in-Unknown : goal.returns-in-Unknown
unfolding closeness_of
returns-in-Unknown c = cc
