use mathlib.Core.Path.{refl}
use Rattle.space.specs.Frames.{remark}
use Rattle.space.proofs.remark.Goals as goal

pub returns : goal.returns
unfolding remark
returns c = refl
