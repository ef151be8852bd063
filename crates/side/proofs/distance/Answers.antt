use Rattle.interval.specs.Box.{dot_i, difference_i}
use Rattle.space.specs.Vector.{box_of}
use Rattle.side.specs.Sides.{along_i, distance_of}
use Rattle.side.proofs.distance.Goals as goal

pub returns : goal.returns
unfolding distance_of along_i dot_i difference_i box_of
returns c = cc
