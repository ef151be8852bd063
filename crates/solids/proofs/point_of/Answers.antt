use mathlib.Core.Path.{◌∙◌}
use Rattle.solids.specs.Faces.{point_in, point_out}
use Rattle.solids.proofs.point_of.Goals as goal

pub returns-then-x-m : goal.returns-then-x-m
returns-then-x-m c = c.get_point.ensures ∙ point_in _ _ _ c.if-x-m.true

pub returns : goal.returns
returns c = point_out _ _ _ c.if-x-m.false
