use Rattle.indexed.specs.Indexed.{search_by, indexed}
use Rattle.indexed.proofs.indexed.Goals as goal

pub returns : goal.returns
unfolding search_by indexed
returns c = c.index_faces.ensures
