use borrow.Author.Tests.{not-false}
use mathlib.Core.Path.{ap}
use mathlib.Core.Bool.{not}
use Rattle.job.proofs.Answers.{facet_points}
use Rattle.job.proofs.read_facet.Goals as goal

pub facet_end-requires : goal.facet_end-requires
facet_end-requires c = facet_points _ _ _ c.is_facet_headed.ensures (not-false _ (ap not c.if-not-is_facet_headed.false)) c.run.ensures
