use Rattle.space.specs.Frames.{face_plane}
use Rattle.space.proofs.face_plane.Goals as goal

pub returns : goal.returns
unfolding face_plane
returns c = cc
